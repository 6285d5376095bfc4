-- The computed truth: Holds, worked out. Parts are tried upward by their number, added heaps in candidate order. Assumes
-- nothing: these are definitions.
use Rattle.std.specs.Prelude.{Bool, not, ℕ, ◌+◌, ◌^◌, eqb}
use Rattle.logic.specs.declared.Profile.{Profile}
use Rattle.logic.specs.Heap.{Map}
use Rattle.logic.specs.Tests.{andb, orb, any, empty, points, chain, sep_at, sept_at}
use Rattle.logic.specs.Formula.{Form}
use Rattle.logic.specs.Formula.Form.{same, diff, pts, ls, conj, disj, but, neg, sep, sept}

module _ (π : Profile) (v n : ℕ) where
  unfoldable pub truth : Form → Map → Map → Bool
  truth (same x y) s h = andb (eqb (s x) (s y)) (empty n h)
  truth (diff x y) s h = andb (not (eqb (s x) (s y))) (empty n h)
  truth (pts x y) s h = points n (s x) (s y) h
  truth (ls x y) s h = chain n n (s x) (s y) h
  truth (conj a b) s h = let r = truth b s h in andb (truth a s h) r
  truth (disj a b) s h = let r = truth b s h in orb (truth a s h) r
  truth (but a b) s h = let r = not (truth b s h) in andb (truth a s h) r
  truth (neg a) s h = not (truth a s h)
  truth (sep a b) s h = any (2 ^ n) (sep_at π v n s h (truth a s) (truth b s))
  truth (sept a b) s h = any ((n + 2) ^ n) (sept_at π v n s h (truth a s) (truth b s))
