-- `draft::Nodes::wand` meets its contract. Assumes nothing.
use Rattle.draft.specs.DraftLaws.{adds_adds, added}
use Rattle.draft.proofs.Nodes.wand.Goals as goal

pub returns : goal.returns
returns c = added (adds_adds (adds_adds c.with_node.ensures c.with_node-2.ensures) c.with_node-3.ensures)
