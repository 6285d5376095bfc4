-- What the loops keep, and what falls.
use Rattle.std.proofs.Common.{◌+◌, ◌*◌, ◌-◌, length}
use Rattle.cells.specs.Cells.{cells}
use Rattle.judge.specs.Setting.{stack_of, first_at, second_at, serves_at, Tried, Walking}
use Rattle.judge.proofs.Judge.+join.Given as goal

abbrev pub decreases-side_holds : goal.decreases-side_holds
decreases-side_holds l = 32 * l.k

abbrev pub decreases-both : goal.decreases-both
decreases-both l = 32 * l.k + 1

abbrev pub decreases-serves : goal.decreases-serves
decreases-serves l = 32 * l.k + 2

abbrev pub decreases-digit : goal.decreases-digit
decreases-digit l = 32 * l.k + 2 * l.l + 3

abbrev pub decreases-fill : goal.decreases-fill
decreases-fill l = 32 * l.k + 2 * l.l + 4

abbrev pub decreases-added : goal.decreases-added
decreases-added l = 32 * l.k + 22

abbrev pub decreases-split : goal.decreases-split
decreases-split l = 32 * l.k + 22

abbrev pub decreases-join : goal.decreases-join
decreases-join l = 32 * l.k + 23

abbrev pub decreases-child_holds : goal.decreases-child_holds
decreases-child_holds l = 32 * l.k + 24

abbrev pub invariant-fill-loop-d : goal.invariant-fill-loop-d
invariant-fill-loop-d l =
    Tried l.self.setting.profile l.self.setting.vars l.self.setting.locs (stack_of l.self.setting) (first_at l.f l.self.setting l.k) (second_at l.f l.self.setting l.k) (cells l.w) l.l (cells l.g) l.d

abbrev pub invariant-split-loop-m : goal.invariant-split-loop-m
invariant-split-loop-m l = Walking l.self.pairs.now (serves_at l.f l.self.setting l.k l.w) l.a l.i

abbrev pub decreases-split-loop-m : goal.decreases-split-loop-m
decreases-split-loop-m l = length l.self.pairs.now - l.i
