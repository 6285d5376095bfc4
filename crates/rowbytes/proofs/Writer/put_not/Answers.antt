-- `rowbytes::Writer::put_not` meets its contract. Assumes nothing.
use Rattle.rows.specs.Row.{fields_of}
use Rattle.rows.specs.Row.Row.{NOT}
use Rattle.rowbytes.specs.WrittenLaws.{one_row}
use Rattle.rowbytes.proofs.Writer.put_not.Goals as goal

pub returns-clause-puts : goal.returns-clause-puts
unfolding fields_of
returns-clause-puts c = one_row (NOT _) c.plain.ensures c.put_row.ensures.puts
