-- `rowbytes::Writer::put_pair` meets its contract. Assumes nothing.
use Rattle.std.proofs.Common.{refl, arith}
use Rattle.rowbytes.specs.WrittenLaws.{puts_puts}
use Rattle.rowbytes.proofs.Writer.put_pair.Goals as goal

pub returns-clause-puts : goal.returns-clause-puts
returns-clause-puts c = puts_puts refl (omega (arith, c.requires.out)) (puts_puts refl (omega (arith, c.requires.out)) c.put_row.ensures.puts c.put_row-2.ensures.puts) c.put_and.ensures.puts
