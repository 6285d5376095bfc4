-- `rowbytes::Writer::put_row` meets its contract. Assumes nothing.
use Rattle.std.proofs.Common.{refl, ◌∙◌}
use Rattle.rowbytes.specs.WrittenLaws.{bytes_copied, moved_row}
use Rattle.rowbytes.proofs.Writer.put_row.Goals as goal

pub returns-clause-puts : goal.returns-clause-puts
returns-clause-puts c = record { numbers = moved_row _ 1; bytes = bytes_copied _ _ _ _ _ c.from-at.ensures (c.copy_from_slice.ensures.after ∙ c.bytes.ensures) refl }
