-- Texts, and what the import answers and writes, in one go over a table. Assumes nothing.
use Rattle.std.specs.Prelude.{◌≡◌, refl, Bool, true, false, ℕ, zero, suc, ◌<◌, ◌≤◌, eqb, leb, get_or}
use Rattle.std.proofs.Common.{◌∙◌, arith}
use Rattle.std.proofs.Math.Path.{ap, ap₂}
use mathlib.Core.List.{List, [], ◌∷◌, ◌++◌}
use Rattle.std.proofs.Math.ListN.{length, drop}
use Rattle.logic.specs.declared.Answer.{Answer}
use Rattle.logic.specs.Numbers.{answer, yes_number, bounds}
use Rattle.logic.specs.Tests.{andb, same_bytes}
use Rattle.logic.specs.Reflect.{Is}
use Rattle.logic.proofs.Reflect.{is_and, is_eq, is_le, is_same_bytes, fails}
use Rattle.logic.proofs.Entries.{every, entry_of}
use Rattle.logic.specs.Book.{most, head_of}
use Rattle.grammar.specs.Phrase.{bytes, choose}
use Rattle.grammar.specs.Places.{known}
use Rattle.grammar.specs.Listing.{size_of, listing, book_of}
use Rattle.grammar.specs.Meaning.{collect, position, form_of, book_for}
use Rattle.grammar.specs.Import.{Imports}
use Rattle.grammar.specs.Machine.{run, step, begun, out, among, ending, alive, emits}
use Rattle.grammar.specs.Outcome.{Outcome, taken, refused, outcome}
use Rattle.grammar.specs.PlaceLaws.{trace}
use Rattle.grammar.specs.Verdicts.{Settled}
use Rattle.grammar.proofs.Verdicts.{settled}
use Rattle.grammar.proofs.ImportLaws.{imports_single, imports_bounds, imports_refused, imports_written}
use Rattle.grammar.specs.ProfileExample.{beside_text, beside_formula}
use Rattle.grammar.specs.Examples.{Example, Right}

refusing : List ℕ → ℕ → ℕ → ℕ → ℕ → Example
refusing t n p m q = record { text = t; n = n; p = p; number = m; place = q; book = [] }

reading : List ℕ → ℕ → ℕ → ℕ → List ℕ → Example
reading t v n p f = record { text = t; n = n; p = p; number = yes_number; place = 0; book = head_of 2 v n p (length f) ++ f }

times : ℕ → List ℕ → List ℕ
times zero x = []
times (suc k) x = x ++ times k x

pub rows : List Example
rows =
    -- the empty text, and one that stops early
    refusing (bytes "") 4 4 26 0 ∷
    refusing (bytes "(pto a b") 4 4 26 8 ∷
    -- blanks are spaces and line feeds
    reading (bytes "(= x\ny)\n ") 2 4 3 (1 ∷ 1 ∷ 2 ∷ 2 ∷ 0 ∷ 0 ∷ 8 ∷ 1 ∷ 0 ∷ 9 ∷ 0 ∷ 2 ∷ []) ∷
    refusing (bytes "(=\tx y)") 4 3 26 2 ∷
    -- what may stand behind
    refusing (bytes "sep.emp x") 4 4 26 8 ∷
    refusing (bytes "sep.empx") 4 4 26 7 ∷
    reading (bytes "(and(distinct x sep.nil)sep.emp)") 1 2 0 (2 ∷ 1 ∷ 0 ∷ 2 ∷ 0 ∷ 0 ∷ 8 ∷ 1 ∷ 0 ∷ 9 ∷ 0 ∷ 2 ∷ 1 ∷ 0 ∷ 0 ∷ 5 ∷ 3 ∷ 4 ∷ []) ∷
    -- words are no names
    refusing (bytes "(pto distinct x)") 4 4 26 12 ∷
    refusing (bytes "(pto and x)") 4 4 26 8 ∷
    -- eight letters and digits, and no ninth
    reading (bytes "(ls abcdefg8 b)") 2 4 4 (4 ∷ 1 ∷ 2 ∷ []) ∷
    refusing (bytes "(ls abcdefg89 b)") 4 4 26 12 ∷
    -- depth 16, and no list in the sixteenth
    reading (times 16 (bytes "(not ") ++ (bytes "sep.emp" ++ times 16 (bytes ")"))) 0 1 1 (1 ∷ 0 ∷ 0 ∷ 8 ∷ 0 ∷ 0 ∷ 8 ∷ 1 ∷ 0 ∷ 8 ∷ 2 ∷ 0 ∷ 8 ∷ 3 ∷ 0 ∷ 8 ∷ 4 ∷ 0 ∷ 8 ∷ 5 ∷ 0 ∷ 8 ∷ 6 ∷ 0 ∷ 8 ∷ 7 ∷ 0 ∷ 8 ∷ 8 ∷ 0 ∷ 8 ∷ 9 ∷ 0 ∷ 8 ∷ 10 ∷ 0 ∷ 8 ∷ 11 ∷ 0 ∷ 8 ∷ 12 ∷ 0 ∷ 8 ∷ 13 ∷ 0 ∷ 8 ∷ 14 ∷ 0 ∷ 8 ∷ 15 ∷ 0 ∷ []) ∷
    refusing (times 16 (bytes "(not ") ++ bytes "(") 1 1 26 80 ∷
    -- a wand; names as they first appear; a's nodes before b's
    reading (bytes "(wand (pto x y) (pto y x))") 2 3 3 (3 ∷ 1 ∷ 2 ∷ 3 ∷ 2 ∷ 1 ∷ 8 ∷ 1 ∷ 0 ∷ 10 ∷ 0 ∷ 2 ∷ 8 ∷ 3 ∷ 0 ∷ []) ∷
    reading (bytes "(or (pto b a) (sep (pto a c) sep.emp))") 3 3 3 (3 ∷ 1 ∷ 2 ∷ 3 ∷ 2 ∷ 3 ∷ 1 ∷ 0 ∷ 0 ∷ 9 ∷ 1 ∷ 2 ∷ 6 ∷ 0 ∷ 3 ∷ []) ∷
    -- a text that tells the profiles apart
    reading beside_text 1 3 3 beside_formula ∷
    -- the 65th node, finished before a bad byte, and not finished
    refusing (times 7 (bytes "(and (or (= a a) (= a a)) ") ++ bytes "(and sep.emp sep.empx") 4 4 27 201 ∷
    refusing (times 7 (bytes "(and (or (= a a) (= a a)) ") ++ bytes "(and sep.emp sep.em") 4 4 26 201 ∷
    -- eight names; a ninth name, and one that is not finished
    reading (bytes "(and (pto a b)(and (pto c d)(and (pto e f)(pto g h))))") 8 8 8 (3 ∷ 1 ∷ 2 ∷ 3 ∷ 3 ∷ 4 ∷ 3 ∷ 5 ∷ 6 ∷ 3 ∷ 7 ∷ 8 ∷ 5 ∷ 2 ∷ 3 ∷ 5 ∷ 1 ∷ 4 ∷ 5 ∷ 0 ∷ 5 ∷ []) ∷
    refusing (bytes "(and (pto a b)(and (pto c d)(and (pto e f)(and (pto g h)(pto i a)))))") 4 4 28 61 ∷
    refusing (bytes "(and (pto a b)(and (pto c d)(and (pto e f)(and (pto g h)(pto i)") 4 4 26 62 ∷
    -- bounds first
    refusing (bytes "") (suc most) 4 12 0 ∷
    refusing (bytes "sep.emp") 4 18446744073709551615 12 0 ∷
    []

-- ---- the test of an example: the number, the place and the bytes are those that are worked out

number_in : Outcome → ℕ
number_in (taken ns k F) = yes_number
number_in (refused m q) = m

place_in : Outcome → ℕ
place_in (taken ns k F) = 0
place_in (refused m q) = q

book_in : ℕ → ℕ → Outcome → List ℕ
book_in n p (taken ns k F) = book_for n p F
book_in n p (refused m q) = []

same : Example → ℕ → ℕ → List ℕ → Bool
same w m q b = andb (andb (eqb m w.number) (eqb q w.place)) (same_bytes b w.book)

in_range : Example → Bool
in_range w = andb (leb w.n most) (leb w.p most)

test : ℕ → Example → Bool
test i w =
    let x = outcome [] 0 (trace w.text) in
    let r = same w (number_in x) (place_in x) (book_in w.n w.p x) in
    let b = same w bounds 0 [] in
    choose (in_range w) r b

module _ (w : Example) (o : List ℕ) (a : Answer) (o' : List ℕ) (room : length w.book ≤ length o) (i : Imports w.text w.n w.p o a o') where
  -- the result that is worked out is allowed, and so the only one
  only_this : (m q : ℕ) (b : List ℕ) → same w m q b ≡ true → (length b ≤ length o → Imports w.text w.n w.p o (answer m q) (b ++ drop (length b) o))
      → (a ≡ answer w.number w.place) × (o' ≡ w.book ++ drop (length w.book) o)
  unfolding same
  only_this m q b e f =
      let t = (is_and (andb (eqb m w.number) (eqb q w.place)) (same_bytes b w.book) (is_and (eqb m w.number) (eqb q w.place) (is_eq m w.number) (is_eq q w.place)) (is_same_bytes b w.book)).to e in
      let z = imports_single w.text w.n w.p o a (answer m q) o' (b ++ drop (length b) o) i (f (omega (arith, ap length t.1))) in
      (z.0 ∙ ap₂ answer t.0.0 t.0.1, z.1 ∙ ap (λ (x : List ℕ). x ++ drop (length x) o) t.1)

  within_range : w.n ≤ most → w.p ≤ most → (x : Outcome) → Settled w.text x → same w (number_in x) (place_in x) (book_in w.n w.p x) ≡ true → (a ≡ answer w.number w.place) × (o' ≡ w.book ++ drop (length w.book) o)
  unfolding number_in place_in book_in
  within_range ln lp (refused m q) u e = only_this m q [] e (λ l. imports_refused w.text w.n w.p o ln lp m q u)
  within_range ln lp (taken ns k F) u e =
      only_this yes_number 0 (book_for w.n w.p F) e (λ l. imports_written w.text w.n w.p o ln lp F (record { events = u.events; means = u.means; none = u.none }) l)

right : (i : ℕ) (w : Example) → test i w ≡ true → Right w
unfolding test in_range
right i w e o a o' room q = go (andb (leb w.n most) (leb w.p most)) (is_and (leb w.n most) (leb w.p most) (is_le w.n most) (is_le w.p most)) e
  where
    go : (c : Bool) → Is c ((w.n ≤ most) × (w.p ≤ most)) → choose c (same w (number_in (outcome [] 0 (trace w.text))) (place_in (outcome [] 0 (trace w.text))) (book_in w.n w.p (outcome [] 0 (trace w.text)))) (same w bounds 0 []) ≡ true
        → (a ≡ answer w.number w.place) × (o' ≡ w.book ++ drop (length w.book) o)
    go true t f = within_range w o a o' room q (t.to refl).0 (t.to refl).1 (outcome [] 0 (trace w.text)) (settled w.text) f
    go false t f = only_this w o a o' room q bounds 0 [] f (λ l. imports_bounds w.text w.n w.p o (fails false t refl))

all_right : every test 0 rows ≡ true
unfolding rows refusing reading times test every in_range same number_in place_in book_in same_bytes run step begun out among ending alive emits known outcome book_of size_of listing collect position form_of
all_right = refl

pub examples : (k : ℕ) (w : Example) → k < length rows → Right (get_or rows k w)
examples k w l = right k (get_or rows k w) (entry_of w test rows all_right k l)
