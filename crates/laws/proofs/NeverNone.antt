-- Where a search found, another says "none" only if it has lost every candidate that fits. Assumes nothing.
use Rattle.std.specs.Prelude.{◌≡◌, List, ℕ, ◌<◌}
use Rattle.std.proofs.Common.{ap, arith}
use Rattle.logic.specs.declared.Profile.{Profile}
use Rattle.logic.specs.declared.Answer.{Answer}
use Rattle.logic.specs.Search.{FitsAt, total_of, Outcome, found, none, spent}
use Rattle.logic.proofs.RefusalLaws.{searches_answered}
use Rattle.laws.specs.NeverNone.{NeverNone}

pub never_none : (π : Profile) (s t : List ℕ) → ((k : ℕ) → k < total_of s → FitsAt π s k → (i : ℕ) × (i < total_of t) × FitsAt π t i) → NeverNone π s t
never_none π s t more b b' o o' x x' a a' p e q f =
    go (searches_answered π s b o a x p (omega arith)).outcome (searches_answered π t b' o' a' x' q (omega arith)).outcome
  where
    number : (y z : Answer) → y ≡ z → y.number ≡ z.number
    number y z g = ap (λ (r : Answer). r.number) g

    go : Outcome (FitsAt π s) (total_of s) b a → Outcome (FitsAt π t) (total_of t) b' a' → ⊥
    go (none u g) v = let z = number _ _ g in omega arith
    go (spent u y g) v = let z = number _ _ g in omega arith
    go (found k u g) (found j v d) = let z = number _ _ d in omega arith
    go (found k u g) (spent v y d) = let z = number _ _ d in omega arith
    go (found k u g) (none v d) = let r = more k u.0.candidate u.0.fits in v.0 r.0 r.1 r.2
