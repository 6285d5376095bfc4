-- What is tested of the named locations is what is said of them. Assumes nothing.
use Rattle.std.specs.Prelude.{◌≡◌, ℕ, suc, eqb}
use Rattle.std.proofs.Common.{le_of_suc-le-suc, arith}
use Rattle.logic.specs.Heap.{Map, Named}
use Rattle.logic.specs.Tests.{named}
use Rattle.logic.specs.Reflect.{Is}
use Rattle.logic.proofs.Reflect.{is_iff, is_eq, is_any}

pub is_named : (v : ℕ) (s : Map) (ℓ : ℕ) → Is (named v s ℓ) (Named v s ℓ)
unfolding named
is_named v s ℓ =
    is_iff (is_any (λ x. eqb (s x) ℓ) (λ x. s x ≡ ℓ) (suc v) (λ i l. is_eq (s i) ℓ))
    (λ q. (q.0, le_of_suc-le-suc q.1, q.2)) (λ q. (q.0, omega (arith, q.1), q.2))
