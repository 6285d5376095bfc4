-- `candidates::power` meets its contract. Assumes nothing.
use native.Mathlib.Omega.{arith}
use Rattle.candidates.specs.CounterLaws.{power_low}
use Rattle.candidates.proofs.power.Goals as goal

pub pow-requires : goal.pow-requires
pow-requires c = omega (arith, power_low c.args.b c.args.k c.requires.0 c.requires.1)

pub returns : goal.returns
returns c = (c.pow.ensures, omega (arith, c.pow.ensures, power_low c.args.b c.args.k c.requires.0 c.requires.1))
