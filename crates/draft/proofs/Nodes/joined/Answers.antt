-- `draft::Nodes::joined` meets its contract. Assumes nothing.
use Rattle.words.specs.declared.Join.TheVariants.{And, Or, Sep, Wand}
use Rattle.draft.specs.DraftLaws.{join_nodes}
use Rattle.draft.proofs.Nodes.joined.Goals as goal

pub returns-in-And : goal.returns-in-And
returns-in-And c = join_nodes c.args.m And c.args.word c.in-And.is c.one_node.ensures

pub returns-in-Or : goal.returns-in-Or
returns-in-Or c = join_nodes c.args.m Or c.args.word c.in-Or.is c.one_node-in-Or.ensures

pub returns-in-Sep : goal.returns-in-Sep
returns-in-Sep c = join_nodes c.args.m Sep c.args.word c.in-Sep.is c.one_node-in-Sep.ensures

pub returns-in-Wand : goal.returns-in-Wand
returns-in-Wand c = join_nodes c.args.m Wand c.args.word c.in-Wand.is c.wand.ensures
