-- `rowbytes::Writer::put_also` meets its contract. Assumes nothing.
use Rattle.std.proofs.Common.{refl, arith}
use Rattle.rowbytes.specs.WrittenLaws.{puts_puts}
use Rattle.rowbytes.proofs.Writer.put_also.Goals as goal

pub returns-clause-puts : goal.returns-clause-puts
returns-clause-puts c = puts_puts refl (omega (arith, c.requires.1.out)) c.put_row.ensures.puts c.put_and.ensures.puts
