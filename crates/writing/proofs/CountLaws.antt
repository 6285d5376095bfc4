-- A written formula has as many names as variables are known among them. Assumes nothing.
use Rattle.std.specs.Prelude.{◌≡◌, refl, Bool, true, false, List, [], ◌∷◌, ◌++◌, ℕ, zero, suc, ◌+◌, ◌<◌, get_or}
use Rattle.std.proofs.Common.{sym, ap, subst, ⊎_elim, eq-or-lt_of_le, le_of_suc-le-suc, arith, length-append}
use Rattle.logic.proofs.Reflect.{is_same_bytes, refutes}
use Rattle.logic.specs.Tests.{orb, pick, same_bytes}
use Rattle.grammar.specs.Phrase.{choose, Term, name_term, Phrase, emp, join, deny, relate}
use Rattle.grammar.specs.Places.{known, note}
use Rattle.grammar.specs.Meaning.{note_term, collect}
use Rattle.grammar.proofs.NumberLaws.{term_note}
use Rattle.writing.specs.Writing.{figure_of, name_of}
use Rattle.writing.specs.WritingLaws.{EachTerm}
use Rattle.writing.specs.TermLaws.{Variable, is_variable}
use Rattle.writing.specs.CountLaws.{count, Counted}

pub count_none : (k : ℕ) (P : ℕ → Bool) → ((i : ℕ) → P i ≡ false) → count k P ≡ 0
unfolding count
count_none zero P h = refl
count_none (suc k) P h = rw (h k) (omega (arith, count_none k P h))

pub count_all : (k : ℕ) (P : ℕ → Bool) → ((i : ℕ) → i < k → P i ≡ true) → count k P ≡ k
unfolding count
count_all zero P h = refl
count_all (suc k) P h = rw (h k (omega arith)) (omega (arith, count_all k P (λ i l. h i (omega arith))))

count_same : (k : ℕ) (P Q : ℕ → Bool) → ((i : ℕ) → i < k → Q i ≡ P i) → count k Q ≡ count k P
unfolding count
count_same zero P Q h = refl
count_same (suc k) P Q h = rw (h k (omega arith)) (ap (λ (z : ℕ). pick (P k) 1 0 + z) (count_same k P Q (λ i l. h i (omega arith))))

count_one_more : (k i : ℕ) (P Q : ℕ → Bool) → i < k → P i ≡ false → Q i ≡ true → ((j : ℕ) → ¬ (j ≡ i) → Q j ≡ P j) → count k Q ≡ suc (count k P)
unfolding count
count_one_more zero i P Q l p q h = absurd (omega arith)
count_one_more (suc k) i P Q l p q h =
    ⊎_elim
    (λ (e : i ≡ k).
    let pk : P k ≡ false = subst (λ (j : ℕ). P j ≡ false) e p in
    let qk : Q k ≡ true = subst (λ (j : ℕ). Q j ≡ true) e q in
    rw (pk, qk) (omega (arith, count_same k P Q (λ j m. h j (λ z. omega arith)))))
    (λ (m : i < k). rw (h k (λ z. omega arith)) (omega (arith, count_one_more k i P Q m p q h))) (eq-or-lt_of_le (le_of_suc-le-suc l))

-- ---- as many names as known variables

pub name_one : (i j : ℕ) → name_of i ≡ name_of j → i ≡ j
name_one i j e = let z : figure_of i ≡ figure_of j = ap (λ (x : List ℕ). get_or x 1 0) e in omega arith

known_other : (ns : List (List ℕ)) (x y : List ℕ) → ¬ (x ≡ y) → known (ns ++ (x ∷ [])) y ≡ known ns y
unfolding known
known_other [] x y n = rw (refutes (same_bytes x y) (is_same_bytes x y) n)
known_other (z ∷ ns) x y n = ap (orb (same_bytes z y)) (known_other ns x y n)

counted_note : (v i : ℕ) (ns : List (List ℕ)) → i < v → Counted v ns → Counted v (note ns (name_of i))
counted_note v i ns l h = go (known ns (name_of i)) refl (term_note ns (name_term (name_of i)))
  where
    go : (c : Bool) → known ns (name_of i) ≡ c → known (choose c ns (ns ++ (name_of i ∷ []))) (name_of i) ≡ true → Counted v (choose c ns (ns ++ (name_of i ∷ [])))
    go true e t = h
    go false e t =
        omega (
          arith,
          h,
          length-append ns (name_of i ∷ []),
          count_one_more v i (λ j. known ns (name_of j)) (λ j. known (ns ++ (name_of i ∷ [])) (name_of j)) l e t (λ j n. known_other ns (name_of i) (name_of j) (λ z. n (sym (name_one i j z)))),
        )

counted_term : (v : ℕ) (t : Term) (ns : List (List ℕ)) → Variable v t → Counted v ns → Counted v (note_term ns t)
counted_term v t ns (is_variable zero l) h = h
counted_term v t ns (is_variable (suc i) l) h = counted_note v i ns l h

pub counted_collect : (v : ℕ) (P : Phrase) (ns : List (List ℕ)) → EachTerm (Variable v) P → Counted v ns → Counted v (collect ns P)
unfolding EachTerm collect
counted_collect v emp ns q h = h
counted_collect v (join c F G) ns q h = counted_collect v G (collect ns F) q.1 (counted_collect v F ns q.0 h)
counted_collect v (deny F) ns q h = counted_collect v F ns q h
counted_collect v (relate c x y) ns q h = counted_term v y (note_term ns x) q.1 (counted_term v x ns q.0 h)
