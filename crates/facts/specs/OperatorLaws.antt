-- The facts of a node by its operator's number. Assumes nothing.
use Rattle.std.specs.Prelude.{◌≡◌, ℕ}
use Rattle.logic.specs.declared.Profile.{Profile}
use Rattle.logic.specs.Heap.{Map}
use Rattle.logic.specs.Formula.{Form}
use Rattle.logic.specs.Formula.Form.{conj, disj, but, sep, sept}
use Rattle.logic.specs.Table.{join_of, join_from5}
use Rattle.skips.proofs.DigitRules.{digits_but}
use Rattle.skips.proofs.BoundRules.{caps_but, needs_but}
use Rattle.facts.specs.declared.fact.Fact.{Fact}
use Rattle.facts.specs.Known.{In, Known, JoinedAs}

module _ (o : ℕ) (a b r : Fact) where
  pub joined_5 : o ≡ 5 → JoinedAs conj a b r → JoinedAs (join_of o) a b r
  unfolding join_of join_from5
  joined_5 e q = rw e (record { known = λ π v n A B s ℓ few p w. q.known π v n A B s ℓ few p w })

  pub joined_6 : o ≡ 6 → JoinedAs disj a b r → JoinedAs (join_of o) a b r
  unfolding join_of join_from5
  joined_6 e q = rw e (record { known = λ π v n A B s ℓ few p w. q.known π v n A B s ℓ few p w })

  pub joined_9 : o ≡ 9 → JoinedAs sep a b r → JoinedAs (join_of o) a b r
  unfolding join_of join_from5
  joined_9 e q = rw e (record { known = λ π v n A B s ℓ few p w. q.known π v n A B s ℓ few p w })

  pub joined_10 : o ≡ 10 → JoinedAs sept a b r → JoinedAs (join_of o) a b r
  unfolding join_of join_from5
  joined_10 e q = rw e (record { known = λ π v n A B s ℓ few p w. q.known π v n A B s ℓ few p w })

-- a and not b: a's facts
pub but_known : (π : Profile) (v n : ℕ) (A B : Form) (s : Map) (ℓ : ℕ) (r : Fact) → Known π v n A s ℓ r → Known π v n (but A B) s ℓ r
but_known π v n A B s ℓ r p =
    record {
      digits = digits_but π v n s ℓ A B (In r.digits) p.digits;
      caps = caps_but π v n s ℓ A B r.cap p.caps;
      needs = needs_but π v n s ℓ A B r.need p.needs;
    }
