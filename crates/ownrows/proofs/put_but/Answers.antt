-- `ownrows::put_but` meets its contract. Assumes nothing.
use Rattle.std.proofs.Common.{[], ◌∷◌, refl, arith}
use Rattle.rows.specs.Row.Row.{NOT, AND}
use Rattle.rowbytes.specs.WrittenLaws.{rows_rows}
use Rattle.ownrows.proofs.put_but.Goals as goal

pub returns-clause-puts : goal.returns-clause-puts
returns-clause-puts c = rows_rows (NOT _ ∷ []) (AND _ _ ∷ []) refl (omega (arith, c.requires.2.out)) c.put_not.ensures.puts c.put_and.ensures.puts
