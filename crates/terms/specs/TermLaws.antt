-- What is read of a term letter by letter is what the machine does with it. Assumes nothing.
use Rattle.std.specs.Prelude.{◌≡◌, Bool, Option, None, Some, Result, Ok, Err, ℕ, suc, ◌+◌, ◌*◌, ◌-◌, ◌≤◌, ◌<◌, eqb, leb, length}
use Rattle.std.proofs.Math.Path.{refl, ap}
use Rattle.std.proofs.Common.{sym, ◌∙◌, subst, inl, inr, ⊎_elim, add-one, length-append}
use Rattle.std.proofs.Math.Bool.{true, false}
use mathlib.Core.List.{List, [], ◌∷◌, ◌++◌}
use native.Mathlib.Omega.{arith}
use Rattle.std.proofs.Math.ListN.{get_or}
use borrow.Author.Tests.{eqb-true, eqb-false, ne_eqb, le-leb, lt-leb}
use Rattle.grammar.specs.Steps.{onward}
use Rattle.grammar.proofs.Steps.{looks, goes_still}
use Rattle.grammar.proofs.Spellings.{other}
use Rattle.logic.specs.Tests.{andb, same_bytes}
use Rattle.logic.specs.Reflect.{Is}
use Rattle.logic.proofs.Reflect.{is_same_bytes, refutes, is_and, is_or, is_le, fails, false_true}
use Rattle.grammar.specs.Phrase.{bytes, joins, Term, nil_term, name_term, spelling, lower, letter, choose}
use Rattle.grammar.specs.Phrase.Join.{sep_word}
use Rattle.grammar.specs.Grammar.{seen, blank, Byte, Spelt}
use Rattle.grammar.specs.Grammar.Spelt.{no_more, one_more}
use Rattle.grammar.specs.Machine.{Frame, Spot, start, later, arg, name, nil, dead, reserved, viable, termed, closing, step, out, bad, emits, alive, ending}
use Rattle.grammar.specs.Forward.{Behind}
use Rattle.grammar.proofs.Forward.{spells_nil, run_name, run_nil}
use Rattle.words.specs.Words.{SpelledIs}
use Rattle.words.specs.declared.BadText.{BadText}
use Rattle.words.specs.Stops.{stops, nil_misses}
use Rattle.terms.specs.Letters.{packed, letters_in, letters_of, term_of}
use Rattle.terms.specs.LetterLaws.{full_name, letters_more, packed_letters, letters_word, viable_over}
use Rattle.terms.specs.Terms.{last_of, LettersIs, EndsIs, NilIs, EndedIs, TermIs}

-- ---- letters

pub is_lower_law : (b : ℕ) → Is (lower b) ((97 ≤ b) × (b ≤ 122))
is_lower_law b = is_and (leb 97 b) (leb b 122) (is_le 97 b) (is_le b 122)

pub lower_up : (b : ℕ) → 97 ≤ b → leb b 122 ≡ lower b
lower_up b h = rw (le-leb 97 b h)

pub lower_down : (b : ℕ) → b < 97 → leb 97 b ≡ lower b
lower_down b h = rw (lt-leb 97 b h)

pub letter_lower : (b : ℕ) (r : Bool) → r ≡ lower b → r ≡ true → r ≡ letter b
letter_lower b r e h = let l : lower b ≡ true = sym e ∙ h in h ∙ rw l

pub letter_digit : (b : ℕ) (r : Bool) → r ≡ lower b → r ≡ false → 48 ≤ b → leb b 57 ≡ letter b
letter_digit b r e h l = let f : lower b ≡ false = sym e ∙ h in rw (f, le-leb 48 b l)

pub letter_none : (b : ℕ) (r : Bool) → r ≡ lower b → r ≡ false → b < 48 → leb 48 b ≡ letter b
letter_none b r e h l = let f : lower b ≡ false = sym e ∙ h in rw (f, lt-leb 48 b l)

-- a letter is a byte that is not 0
pub letter_byte : (b : ℕ) → letter b ≡ true → (0 < b) × (b < 256)
letter_byte b h =
    ⊎_elim (λ q. (omega (arith, q.0), omega (arith, q.1))) (λ q. (omega (arith, q.0), omega (arith, q.1)))
    ((is_or (lower b) (andb (leb 48 b) (leb b 57)) (is_lower_law b) (is_and (leb 48 b) (leb b 57) (is_le 48 b) (is_le b 57))).to h)

module _ (s : List ℕ) where
  -- the text ends in a name
  pub name_cut : (w i : ℕ) → i ≤ length s → length s ≤ i → (t : Spot) (σ : List Frame) → onward s (name (letters_of w) t σ) i ≡ bad i
  unfolding ending
  name_cut w i l h t σ = stops s (name (letters_of w) t σ) i l (λ b q. absurd (omega (arith, q.0))) (λ j. refl)

  module _ (w i : ℕ) (l : i < length s) (e : letter (get_or s i 0) ≡ true) where
    pub name_ninth : full_name ≤ w → (t : Spot) (σ : List Frame) → onward s (name (letters_of w) t σ) i ≡ bad i
    unfolding step alive
    name_ninth h t σ = looks s (name (letters_of w) t σ) (l, refl) ∙ rw (e, viable_over w (get_or s i 0) h)

    pub name_unviable : (x : ℕ) → x ≡ w * 256 + get_or s i 0 → viable (letters_of x) ≡ false → (t : Spot) (σ : List Frame) → onward s (name (letters_of w) t σ) i ≡ bad i
    unfolding step alive
    name_unviable x q h t σ =
        let p = letter_byte (get_or s i 0) e in
        let v : viable (letters_of w ++ (get_or s i 0 ∷ [])) ≡ false = ap viable (sym (letters_more w (get_or s i 0) p.0 p.1)) ∙ ap (λ (y : ℕ). viable (letters_of y)) (sym q) ∙ h in
        looks s (name (letters_of w) t σ) (l, refl) ∙ rw (e, v)

    pub name_longer : (x : ℕ) → x ≡ w * 256 + get_or s i 0 → viable (letters_of x) ≡ true → (t : Spot) (σ : List Frame) → onward s (name (letters_of w) t σ) i ≡ onward s (name (letters_of x) t σ) (i + 1)
    unfolding step out alive
    name_longer x q h t σ =
        let p = letter_byte (get_or s i 0) e in
        let g : letters_of x ≡ letters_of w ++ (get_or s i 0 ∷ []) = ap letters_of q ∙ letters_more w (get_or s i 0) p.0 p.1 in
        let v : viable (letters_of w ++ (get_or s i 0 ∷ [])) ≡ true = ap viable (sym g) ∙ h in
        goes_still s (name (letters_of w) t σ) (name (letters_of w ++ (get_or s i 0 ∷ [])) t σ) (l, refl) (rw (e, v)) refl (rw e)
        ∙ ap (λ (y : List ℕ). onward s (name y t σ) (suc i)) (sym g) ∙ ap (onward s (name (letters_of x) t σ)) (sym (add-one i))

    pub length_longer : (x : ℕ) → x ≡ w * 256 + get_or s i 0 → length (letters_of x) ≡ length (letters_of w) + 1
    length_longer x q =
        let p = letter_byte (get_or s i 0) e in
        ap (λ (y : ℕ). length (letters_of y)) q ∙ ap length (letters_more w (get_or s i 0) p.0 p.1) ∙ length-append (letters_of w) (get_or s i 0 ∷ [])

  -- ---- the end of a term

  module _ (last : Bool) (i : ℕ) where
    pub ends_cut : length s ≤ i → EndsIs s last i false
    ends_cut l t e = record { to = λ z. false_true z; from = λ h. none t h }
      where
        none : (t : Spot) → Behind s t i → false ≡ true
        none (start c) h = absurd (omega (arith, h.2.0))
        none (later c y) (inl h) = absurd (omega (arith, h.2.0))
        none (later c y) (inr q) = absurd (omega (arith, q.0))

    pub ends_close : Byte s 41 i → EndsIs s last i last
    ends_close q t e = subst (λ (r : Bool). Is r (Behind s t i)) e (go t)
      where
        no_blank : (b : ℕ) → blank b ≡ true → Byte s b i → ⊥
        no_blank b h k = eqb-false b 41 (other blank b 41 h refl) (sym k.1 ∙ q.1)

        go : (t : Spot) → Is (last_of t) (Behind s t i)
        go (start c) = record { to = λ z. false_true z; from = λ h. absurd (no_blank h.0 h.1 h.2) }
        go (later c y) = record { to = λ z. inr q; from = λ h. refl }

    pub ends_else : (r : Bool) → i < length s → ¬ (get_or s i 0 ≡ 41) → r ≡ blank (get_or s i 0) → EndsIs s last i r
    ends_else r l f e t g = subst (λ (z : Bool). Is z (Behind s t i)) (sym e) (go t)
      where
        go : (t : Spot) → Is (blank (get_or s i 0)) (Behind s t i)
        go (start c) = record { to = λ h. (get_or s i 0, h, (l, refl)); from = λ h. subst (λ (b : ℕ). blank b ≡ true) (sym h.2.1) h.1 }
        go (later c y) =
            record {
              to = λ h. inl (get_or s i 0, h, (l, refl));
              from = λ h. ⊎_elim (λ k. subst (λ (b : ℕ). blank b ≡ true) (sym k.2.1) k.1) (λ q. absurd (f q.1)) h;
            }

  -- a byte with which the term does not end
  ending_byte : (x : Term) (t : Spot) (σ : List Frame) (b i : ℕ) → ¬ Behind s t i → Byte s b i
      → (blank b ≡ false) × (choose (eqb b 41) (closing x t σ) dead ≡ dead)
  ending_byte x t σ b i f q = (no_blank (blank b) refl t f, no_close t f (eqb b 41) refl)
    where
      no_blank : (c : Bool) → blank b ≡ c → (t : Spot) → ¬ Behind s t i → c ≡ false
      no_blank true e (start c) f = absurd (f (b, e, q))
      no_blank true e (later c y) f = absurd (f (inl (b, e, q)))
      no_blank false e t f = refl

      no_close : (t : Spot) → ¬ Behind s t i → (c : Bool) → eqb b 41 ≡ c → choose c (closing x t σ) dead ≡ dead
      no_close (start c) f true e = refl
      no_close (later c y) f true e = absurd (f (inr (q.0, q.1 ∙ eqb-true b 41 e)))
      no_close t f false e = refl

  -- ---- `sep.nil`

  module _ (last : Bool) (i : ℕ) where
    nil_unended : (t : Spot) (σ : List Frame) (j : ℕ) → j ≤ length s → ¬ Behind s t j → onward s (nil [] t σ) j ≡ bad j
    unfolding step alive ending
    nil_unended t σ j l f = stops s (nil [] t σ) j l (λ b q. let e = ending_byte nil_term t σ b j f q in rw (e.0, e.1)) (λ m. refl)

    pub nil_found : (j : ℕ) → SpelledIs s (bytes "nil") i (Ok j) → EndsIs s last j true → NilIs s last i (Ok j)
    nil_found j k e = (three k.0, k.2, λ t h σ. spells_nil s t σ k.0 ∙ run_nil s t σ j ((e t h).to refl))
      where
        three : {i j : ℕ} → Spelt s (bytes "nil") i j → i < j
        three (one_more q (one_more r (one_more u no_more))) = omega arith

    pub nil_open : (j : ℕ) → SpelledIs s (bytes "nil") i (Ok j) → EndsIs s last j false → NilIs s last i (Err (record { at = j }))
    nil_open j k e t h σ = spells_nil s t σ k.0 ∙ nil_unended t σ j k.2 (fails false (e t h) refl)

    pub nil_missed : (p : BadText) → SpelledIs s (bytes "nil") i (Err p) → NilIs s last i (Err p)
    nil_missed p k t h σ = nil_misses s t σ k.0 k.1

  -- ---- behind the letters

  module _ (last : Bool) (w i : ℕ) (l : i < length s) (e : letter (get_or s i 0) ≡ false) where
    pub dot_wrong : get_or s i 0 ≡ 46 → ¬ (w ≡ packed (spelling (joins sep_word))) → EndedIs s last w i (Err (record { at = i }))
    unfolding step alive
    dot_wrong d f t h σ =
        let n : same_bytes (spelling (joins sep_word)) (letters_of w) ≡ false = refutes (same_bytes (spelling (joins sep_word)) (letters_of w)) (is_same_bytes (spelling (joins sep_word)) (letters_of w)) (λ q. f (sym (packed_letters w) ∙ ap packed (sym q))) in
        looks s (name (letters_of w) t σ) (l, d) ∙ rw n

    -- behind the dot of `sep`
    dot : get_or s i 0 ≡ 46 → w ≡ packed (spelling (joins sep_word)) → (t : Spot) (σ : List Frame) → onward s (name (letters_of w) t σ) i ≡ onward s (nil (bytes "nil") t σ) (i + 1)
    unfolding step out alive emits
    dot d f t σ =
        let n : same_bytes (spelling (joins sep_word)) (letters_of w) ≡ true = (is_same_bytes (spelling (joins sep_word)) (letters_of w)).from (sym (letters_word (joins sep_word) w f)) in
        goes_still s (name (letters_of w) t σ) (nil (bytes "nil") t σ) (l, d) (rw n) refl refl ∙ ap (onward s (nil (bytes "nil") t σ)) (sym (add-one i))

    pub dot_nil : get_or s i 0 ≡ 46 → w ≡ packed (spelling (joins sep_word)) → (j : ℕ) → NilIs s last (i + 1) (Ok j) → EndedIs s last w i (Ok (j, None))
    unfolding emits
    dot_nil d f j (lo, hi, q) = (omega arith, hi, λ t h σ. dot d f t σ ∙ q t h σ)

    pub dot_missed : get_or s i 0 ≡ 46 → w ≡ packed (spelling (joins sep_word)) → (p : BadText) → NilIs s last (i + 1) (Err p) → EndedIs s last w i (Err p)
    dot_missed d f p q t h σ = dot d f t σ ∙ q t h σ

    pub word_wrong : ¬ (get_or s i 0 ≡ 46) → reserved (letters_of w) ≡ true → EndedIs s last w i (Err (record { at = i }))
    unfolding step alive
    word_wrong d r t h σ = looks s (name (letters_of w) t σ) (l, refl) ∙ rw (e, ne_eqb (get_or s i 0) 46 d, r)

    pub open_wrong : ¬ (get_or s i 0 ≡ 46) → reserved (letters_of w) ≡ false → EndsIs s last i false → EndedIs s last w i (Err (record { at = i }))
    unfolding step alive
    open_wrong d r f t h σ =
        let k = ending_byte (name_term (letters_of w)) t σ (get_or s i 0) i (fails false (f t h) refl) (l, refl) in
        looks s (name (letters_of w) t σ) (l, refl) ∙ rw (e, ne_eqb (get_or s i 0) 46 d, r, k.0, k.1)

    pub name_ended : 0 < w → reserved (letters_of w) ≡ false → EndsIs s last i true → EndedIs s last w i (Ok (i, Some w))
    name_ended z r f =
        (omega arith, omega arith, λ t h σ. run_name s (letters_of w) t σ i r ((f t h).to refl))

  -- ---- a term

  pub no_term : (last : Bool) (i : ℕ) → i ≤ length s → ((b : ℕ) → Byte s b i → (blank b ≡ false) × (lower b ≡ false)) → TermIs s last i (Err (record { at = i }))
  unfolding step alive ending
  no_term last i l f t h σ = stops s (arg t σ) i l (λ b q. let e = f b q in rw (e.0, e.1)) (λ m. refl)

  module _ (i : ℕ) (l : i < length s) (n : blank (get_or s i 0) ≡ false) (e : lower (get_or s i 0) ≡ true) where
    one_letter : letters_of (get_or s i 0) ≡ get_or s i 0 ∷ []
    unfolding letters_in
    one_letter =
        let q = (is_lower_law (get_or s i 0)).to e in
        let z : get_or s i 0 ≡ 0 * 256 + get_or s i 0 = omega arith in
        ap letters_of z ∙ letters_more 0 (get_or s i 0) (omega (arith, q.0)) (omega (arith, q.1))

    begins : (t : Spot) (σ : List Frame) → onward s (arg t σ) i ≡ onward s (name (letters_of (get_or s i 0)) t σ) (i + 1)
    unfolding step out alive
    begins t σ =
        goes_still s (arg t σ) (name (get_or s i 0 ∷ []) t σ) (l, refl) (rw (n, e)) refl refl
        ∙ ap (λ (y : List ℕ). onward s (name y t σ) (suc i)) (sym one_letter) ∙ ap (onward s (name (letters_of (get_or s i 0)) t σ)) (sym (add-one i))

    pub term_wrong : (last : Bool) (p : BadText) → LettersIs s (get_or s i 0) (i + 1) (Err p) → TermIs s last i (Err p)
    term_wrong last p q t h σ = begins t σ ∙ q t σ

    pub term_ended : (last : Bool) (w j : ℕ) (r : Result (ℕ × Option ℕ) BadText) → LettersIs s (get_or s i 0) (i + 1) (Ok (j, w)) → EndedIs s last w j r → TermIs s last i r
    term_ended last w j (Ok (k, x)) (lo, hi, some, end, long, q) (from, upto, f) =
        let first : j - length (letters_of w) ≡ i = omega (arith, long, ap length one_letter) in
        (omega arith, upto, λ t h σ. begins t σ ∙ q t σ ∙ f t h σ ∙ ap (λ (m : ℕ). emits (seen (term_of x) m k) (onward s (termed (term_of x) t σ) k)) first)
    term_ended last w j (Err p) (lo, hi, some, end, long, q) f = λ t h σ. begins t σ ∙ q t σ ∙ f t h σ
