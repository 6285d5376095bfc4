-- Every variable of a text's formula is named by one of its atoms, and so by an atom of its table. Assumes nothing.
use Rattle.std.specs.Prelude.{◌≡◌, refl, Bool, true, false, List, [], ◌∷◌, ◌++◌, ◌⊎◌, ℕ, suc, ◌+◌, ◌<◌, ◌≤◌, length}
use Rattle.std.proofs.Common.{sym, ap, ◌∙◌, inl, inr, ⊎_elim, arith, length-append}
use Rattle.std.proofs.Math.Decide.{dec_lt}
use Rattle.logic.specs.Formula.{Form}
use Rattle.logic.specs.Formula.Form.{same, diff, pts, ls, conj, disj, but, neg, sep, sept}
use Rattle.logic.specs.Table.{op_of, operand_of}
use Rattle.grammar.specs.Phrase.{choose, Join, Atom, Term, nil_term, name_term, Phrase, emp, join, deny, relate}
use Rattle.grammar.specs.Phrase.Join.{and_word, or_word, sep_word, wand_word}
use Rattle.grammar.specs.Phrase.Atom.{equal_word, distinct_word, pto_word, ls_word}
use Rattle.grammar.specs.Places.{known, note}
use Rattle.grammar.specs.Listing.{size_of}
use Rattle.grammar.specs.ListingLaws.{Node, Has}
use Rattle.grammar.specs.Meaning.{note_term, collect, position, number_of, join_form, atom_form, form_of}
use Rattle.grammar.specs.NumberLaws.{More}
use Rattle.grammar.proofs.NumberLaws.{more_more, more_term, more_collect, term_note, number_more, position_new}
use Rattle.imported.specs.Named.{NamedIn}

-- ---- a name that is new has the next number

new_name : (ns : List (List ℕ)) (x : List ℕ) (i : ℕ) → length ns ≤ i → i < length (note ns x) → (known ns x ≡ false) × (i ≡ length ns)
new_name ns x i l h = go (known ns x) refl h
  where
    go : (c : Bool) → known ns x ≡ c → i < length (choose c ns (ns ++ (x ∷ []))) → (known ns x ≡ false) × (i ≡ length ns)
    go true e m = absurd (omega arith)
    go false e m = (e, omega (arith, length-append ns (x ∷ []), m))

-- and keeps it among all names ms
new_number : (ns ms : List (List ℕ)) (x : Term) (i : ℕ) → More (note_term ns x) ms → length ns ≤ i → i < length (note_term ns x) → number_of ms x ≡ suc i
new_number ns ms nil_term i m l h = absurd (omega arith)
new_number ns ms (name_term x) i m l h =
    let q = new_name ns x i l h in
    let is : note ns x ≡ ns ++ (x ∷ []) = rw q.0 in
    number_more (note ns x) ms (name_term x) m (term_note ns (name_term x))
    ∙ ap suc (ap (λ (ks : List (List ℕ)). position ks x) is ∙ position_new ns x q.0 ∙ sym q.1)

-- ---- every number is an atom's

atom_first : (c : Atom) (a b x : ℕ) → a ≡ x → NamedIn (atom_form c a b) x
unfolding NamedIn
atom_first equal_word a b x e = inl (inl e)
atom_first distinct_word a b x e = inl (inl e)
atom_first pto_word a b x e = inl e
atom_first ls_word a b x e = inl e

atom_second : (c : Atom) (a b x : ℕ) → b ≡ x → NamedIn (atom_form c a b) x
unfolding NamedIn
atom_second equal_word a b x e = inl (inr e)
atom_second distinct_word a b x e = inl (inr e)
atom_second pto_word a b x e = inr e
atom_second ls_word a b x e = inr e

join_either : (c : Join) (a b : Form) (x : ℕ) → NamedIn a x ⊎ NamedIn b x → NamedIn (join_form c a b) x
unfolding NamedIn
join_either and_word a b x q = q
join_either or_word a b x q = q
join_either sep_word a b x q = q
join_either wand_word a b x q = q

-- after the names ns, the phrase brings those up to its own; ms are all names of the text
pub every_named : (F : Phrase) (ns ms : List (List ℕ)) → More (collect ns F) ms → (i : ℕ) → length ns ≤ i → i < length (collect ns F) → NamedIn (form_of (number_of ms) F) (suc i)
unfolding collect form_of NamedIn
every_named emp ns ms m i l h = absurd (omega arith)
every_named (join c F G) ns ms m i l h = join_either c (form_of (number_of ms) F) (form_of (number_of ms) G) (suc i) (go (dec_lt i (length (collect ns F))) (every_named F ns ms) (every_named G (collect ns F) ms m i))
  where
    go : Dec (i < length (collect ns F)) → (More (collect ns F) ms → (j : ℕ) → length ns ≤ j → j < length (collect ns F) → NamedIn (form_of (number_of ms) F) (suc j))
        → (length (collect ns F) ≤ i → i < length (collect (collect ns F) G) → NamedIn (form_of (number_of ms) G) (suc i)) → NamedIn (form_of (number_of ms) F) (suc i) ⊎ NamedIn (form_of (number_of ms) G) (suc i)
    go (yes q) f g = inl (f (more_more (collect ns F) (collect (collect ns F) G) ms (more_collect G (collect ns F)) m) i l q)
    go (no q) f g = inr (g (omega arith) h)
every_named (deny F) ns ms m i l h = every_named F ns ms m i l h
every_named (relate c x y) ns ms m i l h = go (dec_lt i (length (note_term ns x)))
  where
    go : Dec (i < length (note_term ns x)) → NamedIn (atom_form c (number_of ms x) (number_of ms y)) (suc i)
    go (yes q) = atom_first c (number_of ms x) (number_of ms y) (suc i) (new_number ns ms x i (more_more (note_term ns x) (note_term (note_term ns x) y) ms (more_term (note_term ns x) y) m) l q)
    go (no q) = atom_second c (number_of ms x) (number_of ms y) (suc i) (new_number (note_term ns x) ms y i m (omega arith) h)

-- ---- and stands in the table

module _ (f : List ℕ) (x : ℕ) where
  -- one of the m nodes from k on is an atom that names x
  abbrev NamedFrom : ℕ → ℕ → Type 0
  NamedFrom k m = (j : ℕ) × (j < k + m) × (op_of f j ≤ 4) × ((operand_of f j 0 ≡ x) ⊎ (operand_of f j 1 ≡ x))

  atom_names : (k o a b : ℕ) → o ≤ 4 → Node f k o a b → (a ≡ x) ⊎ (b ≡ x) → NamedFrom k 1
  atom_names k o a b l n q = (k, omega arith, omega (arith, n.0, l), ⊎_elim (λ (e : a ≡ x). inl (n.1 ∙ e)) (λ (e : b ≡ x). inr (n.2 ∙ e)) q)

  more_nodes : (k m l r : ℕ) → k + m ≤ l + r → NamedFrom k m → NamedFrom l r
  more_nodes k m l r h q = (q.0, omega (arith, q.1), q.2, q.3)

  either : (a b : Form) (k : ℕ) → (NamedIn a x → NamedFrom k (size_of a)) → (NamedIn b x → NamedFrom (k + size_of a) (size_of b)) → NamedIn a x ⊎ NamedIn b x → NamedFrom k (size_of a + size_of b + 1)
  either a b k f g q =
      ⊎_elim (λ u. more_nodes k (size_of a) k (size_of a + size_of b + 1) (omega arith) (f u))
      (λ u. more_nodes (k + size_of a) (size_of b) k (size_of a + size_of b + 1) (omega arith) (g u)) q

  pub table_names : (F : Form) (k : ℕ) → Has f k F → NamedIn F x → NamedFrom k (size_of F)
  unfolding Has NamedIn size_of
  table_names (same a b) k h q = atom_names k 1 a b (omega arith) h q
  table_names (diff a b) k h q = atom_names k 2 a b (omega arith) h q
  table_names (pts a b) k h q = atom_names k 3 a b (omega arith) h q
  table_names (ls a b) k h q = atom_names k 4 a b (omega arith) h q
  table_names (conj a b) k h q = either a b k (table_names a k h.0) (table_names b (k + size_of a) h.1) q
  table_names (disj a b) k h q = either a b k (table_names a k h.0) (table_names b (k + size_of a) h.1) q
  table_names (but a b) k h q = either a b k (table_names a k h.0) (table_names b (k + size_of a) h.1) q
  table_names (neg a) k h q = more_nodes k (size_of a) k (size_of a + 1) (omega arith) (table_names a k h.0 q)
  table_names (sep a b) k h q = either a b k (table_names a k h.0) (table_names b (k + size_of a) h.1) q
  table_names (sept a b) k h q = either a b k (table_names a k h.0) (table_names b (k + size_of a) h.1) q
