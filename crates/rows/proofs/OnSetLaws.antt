-- Segments and disjoint parts of a heap that is an array on a set. Assumes nothing.
use Rattle.std.specs.Prelude.{◌≡◌, false, ◌↔◌, ℕ, ◌≤◌}
use Rattle.logic.specs.declared.Profile.{Profile}
use Rattle.logic.specs.Heap.{Map, Heap, Disjoint}
use Rattle.logic.specs.Holds.{Segment}
use Rattle.logic.proofs.Chains.{is_chain, is_segment}
use Rattle.rows.specs.Assignment.{Set, Member, on}
use Rattle.rows.specs.Meaning.{Links, Apart}
use Rattle.rows.proofs.OnSet.{member_of, chain_on, with_values}

module _ (A : Map) (S : Set) (nil : S 0 ≡ false) where
  pub segment_on : (n a b : ℕ) → Heap n (on A S) → ((k : ℕ) × (k ≤ n) × Links A S a b k) ↔ Segment a b (on A S)
  segment_on n a b h =
      let c = is_chain n n a b (on A S) h in
      let g = is_segment n a b (on A S) h in (
        λ q. g.to (c.from (q.0, q.1, ((chain_on A S nil) a b q.0).0 q.2)),
        λ q. let y = c.to (g.from q) in (y.0, y.1, ((chain_on A S nil) a b y.0).1 y.2),
      )

pub apart_disjoint : (π : Profile) (v : ℕ) (s A : Map) (S1 S2 : Set) → ((ℓ : ℕ) → ¬ (Member S1 ℓ × Member S2 ℓ)) → Apart π v s A S1 S2 → Disjoint π v s (on A S1) (on A S2)
apart_disjoint π v s A S1 S2 alone' q =
    record {
      alone = λ ℓ y. alone' ℓ (member_of A S1 ℓ y.0, member_of A S2 ℓ y.1);
      meet = λ ℓ x y. q ℓ ((with_values A S1 ℓ).0 x) ((with_values A S2 ℓ).0 y);
    }

pub disjoint_apart : (π : Profile) (v : ℕ) (s A : Map) (S1 S2 : Set) → Disjoint π v s (on A S1) (on A S2) → Apart π v s A S1 S2
disjoint_apart π v s A S1 S2 q ℓ x y = q.meet ℓ ((with_values A S1 ℓ).1 x) ((with_values A S2 ℓ).1 y)
