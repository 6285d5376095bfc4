-- An operator's words around its operands are its text, and a node's own bytes add up to a text's length. Assumes nothing.
use Rattle.std.specs.Prelude.{◌≡◌, refl, List, [], ◌∷◌, ◌++◌, ℕ, zero, suc, ◌+◌, ◌*◌, ◌≤◌}
use Rattle.std.proofs.Common.{sym, ap, ◌∙◌, append_assoc, arith, length-append}
use Prim.Native.Char.{code}
use Rattle.std.proofs.Math.Decide.{ℕ_discrete}
use Rattle.std.proofs.Math.ListN.{length}
use borrow.Author.Tests.{le-leb, lt-leb}
use Rattle.logic.specs.Formula.{Form}
use Rattle.logic.specs.Table.{atom_of, join_of, join_from5}
use Rattle.logic.proofs.TableLaws.{a_is_child, b_is_child, b_of_8}
use Rattle.logic.proofs.Operators.{each_atom, each_join, each_operator}
use Rattle.logic.specs.Weight.{kid, Adds}
use Rattle.logic.specs.Children.{none, one, two}
use Rattle.put.specs.Puts.{Room}
use Rattle.put.specs.PutsLaws.{room_first}
use Rattle.grammar.specs.Phrase.{bytes}
use Rattle.writing.specs.Writing.{phrase_of, write}
use Rattle.ownwords.specs.OwnWords.{text, before, between, behind, around, around_one, term, word_bytes, own_byte_count}

-- ---- the words, where several operators have the same

-- what code knows that has gone through the operators up to 9
abbrev NoneToNine : ℕ → Type 0
NoneToNine o = ((((((((Unit {0} × (¬ (o ≡ 1))) × (¬ (o ≡ 2))) × (¬ (o ≡ 3))) × (¬ (o ≡ 4))) × (¬ (o ≡ 5))) × (¬ (o ≡ 6))) × (¬ (o ≡ 7))) × (¬ (o ≡ 8))) × (¬ (o ≡ 9))

module _ (o : ℕ) (l : 1 ≤ o) (h : o ≤ 10) where
  pub last_is_ten : NoneToNine o → o ≡ 10
  last_is_ten =
      each_operator (λ o. NoneToNine o → o ≡ 10)
      (λ n. absurd (n.0.0.0.0.0.0.0.0.1 refl)) (λ n. absurd (n.0.0.0.0.0.0.0.1 refl)) (λ n. absurd (n.0.0.0.0.0.0.1 refl)) (λ n. absurd (n.0.0.0.0.0.1 refl)) (λ n. absurd (n.0.0.0.0.1 refl)) (λ n. absurd (n.0.0.0.1 refl)) (λ n. absurd (n.0.0.1 refl)) (λ n. absurd (n.0.1 refl)) (λ n. absurd (n.1 refl)) (λ n. refl) o l h

  pub between_space : ¬ (o ≡ 7) → ¬ (o ≡ 8) → ¬ (o ≡ 10) → between o ≡ bytes " "
  unfolding between
  between_space =
      each_operator (λ o. ¬ (o ≡ 7) → ¬ (o ≡ 8) → ¬ (o ≡ 10) → between o ≡ bytes " ")
      (λ p q r. refl) (λ p q r. refl) (λ p q r. refl) (λ p q r. refl) (λ p q r. refl) (λ p q r. refl) (λ p q r. absurd (p refl)) (λ p q r. absurd (q refl)) (λ p q r. refl) (λ p q r. absurd (r refl)) o l h

  pub behind_emp : o ≤ 2 → behind o ≡ bytes ") sep.emp)"
  unfolding behind
  behind_emp m = each_atom (λ o. o ≤ 2 → behind o ≡ bytes ") sep.emp)") (λ p. refl) (λ p. refl) (λ p. absurd (omega arith)) (λ p. absurd (omega arith)) o l (omega arith) m

  pub behind_bracket : 3 ≤ o → ¬ (o ≡ 7) → ¬ (o ≡ 10) → behind o ≡ bytes ")"
  unfolding behind
  behind_bracket =
      each_operator (λ o. 3 ≤ o → ¬ (o ≡ 7) → ¬ (o ≡ 10) → behind o ≡ bytes ")")
      (λ p q r. absurd (omega arith)) (λ p q r. absurd (omega arith)) (λ p q r. refl) (λ p q r. refl) (λ p q r. refl) (λ p q r. refl) (λ p q r. absurd (q refl)) (λ p q r. refl) (λ p q r. refl) (λ p q r. absurd (r refl)) o l h

-- a name has two bytes
module _ (x : ℕ) (l : 1 ≤ x) where
  pub name_is : term x ≡ code "v" ∷ (code "0" + x) ∷ []
  name_is = go x l
    where
      go : (x : ℕ) → 1 ≤ x → term x ≡ code "v" ∷ (code "0" + x) ∷ []
      go zero l = absurd (omega arith)
      go (suc x) l = ap (λ (b : ℕ). code "v" ∷ b ∷ []) (omega arith)

pub term_short : (x : ℕ) → length (term x) ≤ 7
term_short zero = omega arith
term_short (suc x) = omega arith

-- ---- the words around the operands

pub atom_text : (o x y : ℕ) → 1 ≤ o → o ≤ 4 → around o (term x) (term y) ≡ text (atom_of o x y)
unfolding before between behind atom_of phrase_of write
atom_text o x y =
    each_atom (λ o. around o (term x) (term y) ≡ text (atom_of o x y))
    (simp append_assoc) (simp append_assoc) (simp append_assoc) (simp append_assoc) o

pub join_text : (o : ℕ) (a b : Form) → 5 ≤ o → o ≤ 10 → ¬ (o ≡ 8) → around o (text a) (text b) ≡ text (join_of o a b)
unfolding before between behind join_of join_from5 phrase_of write
join_text o a b =
    each_join (λ o. ¬ (o ≡ 8) → around o (text a) (text b) ≡ text (join_of o a b))
    (λ n. simp append_assoc) (λ n. simp append_assoc) (λ n. simp append_assoc) (λ n. absurd (n refl)) (λ n. simp append_assoc) (λ n. simp append_assoc) o

pub not_text : (o : ℕ) (a b : Form) → o ≡ 8 → around_one o (text a) ≡ text (join_of o a b)
unfolding before behind join_of join_from5 phrase_of write
not_text o a b e = rw e

-- ---- room for them, one by one

module _ (o at : ℕ) (x y out : List ℕ) (r : Room at (around o x y) out) where
  pub room_to_second : Room at (before o ++ x ++ between o ++ y) out
  room_to_second = room_first at (before o ++ x ++ between o ++ y) (behind o) out r

  pub room_to_between : Room at (before o ++ x ++ between o) out
  room_to_between = room_first at (before o ++ x ++ between o) y out room_to_second

  pub room_to_first : Room at (before o ++ x) out
  room_to_first = room_first at (before o ++ x) (between o) out room_to_between

  pub room_before : Room at (before o) out
  room_before = room_first at (before o) x out room_to_first

-- ---- how many bytes a text has

length_around : (o : ℕ) (x y : List ℕ) → length (around o x y) ≡ word_bytes o + (length x + length y)
unfolding word_bytes
length_around o x y =
    let a = length-append (before o ++ x ++ between o ++ y) (behind o) in
    let b = length-append (before o ++ x ++ between o) y in
    let c = length-append (before o ++ x) (between o) in
    let d = length-append (before o) x in
    omega (arith, a, b, c, d)

length_around_one : (o : ℕ) (x : List ℕ) → o ≡ 8 → length (around_one o x) ≡ word_bytes o + length x
unfolding word_bytes between
length_around_one o x e =
    let a = length-append (before o ++ x) (behind o) in
    let b = length-append (before o) x in
    let c : length (between o) ≡ 0 = rw e in
    omega (arith, a, b, c)

-- as the code goes through the operators
module _ (o x y : ℕ) where
  pub own_join : (w : ℕ) → 5 ≤ o → w ≡ word_bytes o → w ≡ own_byte_count o x y
  unfolding own_byte_count
  own_join w l e = rw (lt-leb o 4 l) (omega arith)

  pub own_atom : (w i j : ℕ) → o ≤ 4 → w ≡ word_bytes o → i ≡ length (term x) → j ≡ length (term y) → w + i + j ≡ own_byte_count o x y
  unfolding own_byte_count
  own_atom w i j l e p q = rw (le-leb o 4 l) (omega arith)

-- a text's length is a node's own bytes and its children's
pub bytes_add : Adds (λ F. length (text F)) own_byte_count
bytes_add = record { atom = atom; join = join }
  where
    atom : (o x y : ℕ) → 1 ≤ o → o ≤ 4 → length (text (atom_of o x y)) ≡ own_byte_count o x y
    atom o x y l h =
        unfold own_byte_count in
        rw (le-leb o 4 h) (sym (ap length (atom_text o x y l h)) ∙ length_around o (term x) (term y))

    join : (o x y : ℕ) (a b : Form) → 5 ≤ o → o ≤ 10 → length (text (join_of o a b)) ≡ own_byte_count o x y + (kid o 0 (length (text a)) + kid o 1 (length (text b)))
    join o x y a b l h = go (ℕ_discrete o 8)
      where
        go : Dec (o ≡ 8) → length (text (join_of o a b)) ≡ own_byte_count o x y + (kid o 0 (length (text a)) + kid o 1 (length (text b)))
        go (yes e) =
            unfold own_byte_count in
            rw (a_is_child o l, b_of_8 o e, lt-leb o 4 l) (sym (ap length (not_text o a b e)) ∙ length_around_one o (text a) e ∙ omega arith)
        go (no n) =
            unfold own_byte_count in
            rw (a_is_child o l, b_is_child o l n, lt-leb o 4 l) (sym (ap length (join_text o a b l h n)) ∙ length_around o (text a) (text b) ∙ omega arith)

-- the words of an operator are short
pub words_short : (o : ℕ) → 1 ≤ o → o ≤ 10 → word_bytes o ≤ 26
unfolding word_bytes before between behind
words_short = each_operator (λ o. word_bytes o ≤ 26) (omega arith) (omega arith) (omega arith) (omega arith) (omega arith) (omega arith) (omega arith) (omega arith) (omega arith) (omega arith)

-- what a node has of its own at the most, by how many children it has
pub own_most : (o x y : ℕ) → 1 ≤ o → o ≤ 10 → own_byte_count o x y ≤ none o * 40 + one o * 6 + two o * 20
unfolding own_byte_count word_bytes before between behind
own_most o x y =
    let a = term_short x in
    let b = term_short y in
    each_operator (λ o. own_byte_count o x y ≤ none o * 40 + one o * 6 + two o * 20)
    (omega (arith, a, b)) (omega (arith, a, b)) (omega (arith, a, b)) (omega (arith, a, b)) (omega arith) (omega arith) (omega arith) (omega arith) (omega arith) (omega arith) o
