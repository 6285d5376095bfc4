-- `draft::Nodes::with_node` meets its contract. Assumes nothing.
use Rattle.draft.specs.DraftLaws.{one_more_node}
use Rattle.draft.proofs.Nodes.with_node.Goals as goal

pub returns : goal.returns
returns c = let a = c.args in one_more_node a.self.now a.op a.a a.b c.requires _ _
