-- `rowbytes::Writer::put_and` meets its contract. Assumes nothing.
use Rattle.rows.specs.Row.{fields_of}
use Rattle.rows.specs.Row.Row.{AND}
use Rattle.rowbytes.specs.WrittenLaws.{one_row}
use Rattle.rowbytes.proofs.Writer.put_and.Goals as goal

pub returns-clause-puts : goal.returns-clause-puts
unfolding fields_of
returns-clause-puts c = one_row (AND _ _) c.plain.ensures c.put_row.ensures.puts
