-- `draft::Nodes::related` meets its contract. Assumes nothing.
use Rattle.words.specs.declared.Atom.TheVariants.{Equal, Distinct, Pto, Ls}
use Rattle.draft.specs.DraftLaws.{atom_nodes, equal_nodes, distinct_nodes, pto_nodes, ls_nodes}
use Rattle.draft.proofs.Nodes.related.Goals as goal

pub returns-in-Equal : goal.returns-in-Equal
returns-in-Equal c = let a = c.args in atom_nodes a.x a.y Equal a.word c.in-Equal.is (equal_nodes a.x a.y c.anywhere.ensures)

pub returns-in-Distinct : goal.returns-in-Distinct
returns-in-Distinct c = let a = c.args in atom_nodes a.x a.y Distinct a.word c.in-Distinct.is (distinct_nodes a.x a.y c.anywhere-in-Distinct.ensures)

pub returns-in-Pto : goal.returns-in-Pto
returns-in-Pto c = let a = c.args in atom_nodes a.x a.y Pto a.word c.in-Pto.is (pto_nodes a.x a.y c.one_node.ensures)

pub returns-in-Ls : goal.returns-in-Ls
returns-in-Ls c = let a = c.args in atom_nodes a.x a.y Ls a.word c.in-Ls.is (ls_nodes a.x a.y c.one_node-in-Ls.ensures)
