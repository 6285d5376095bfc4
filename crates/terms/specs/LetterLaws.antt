-- A number and the letters that it holds. Assumes nothing.
use Rattle.std.specs.Prelude.{◌≡◌, refl, Bool, true, false, not, List, [], ◌∷◌, ◌++◌, ℕ, zero, suc, ◌+◌, ◌-◌, ◌*◌, ◌/◌, ◌%◌, ◌≤◌, ◌<◌, eqb, ltb, length}
use Rattle.std.proofs.Common.{sym, ap, ◌∙◌, append_assoc, append-nil, arith, length-append, eqb-true, eq-eqb, ne_eqb, lt-ltb, le-ltb}
use Rattle.std.proofs.lemmas.Bool.{eqb-false}
use Rattle.grammar.proofs.Spellings.{none_among, spelling_reserved}
use Rattle.logic.specs.Tests.{andb, same_bytes}
use Rattle.logic.proofs.Reflect.{is_and, is_lt, is_self, is_same_bytes, refutes}
use Rattle.grammar.specs.Phrase.{Word, joins, denies, relates, spelling, longest}
use Rattle.grammar.specs.Phrase.Join.{and_word, or_word, sep_word, wand_word}
use Rattle.grammar.specs.Phrase.Atom.{equal_word, distinct_word, pto_word, ls_word}
use Rattle.grammar.specs.Machine.{words, reserved, viable}
use Rattle.terms.specs.Letters.{packed_on, packed, unless, letters_in, letters_of}

-- ---- there and back

-- k or m letters are enough
letters_enough : (k m w : ℕ) → w ≤ k → w ≤ m → letters_in k w ≡ letters_in m w
unfolding letters_in
letters_enough zero zero w h l = refl
letters_enough zero (suc m) w h l = let e : w ≡ 0 = omega arith in rw (eq-eqb w 0 e)
letters_enough (suc k) zero w h l = let e : w ≡ 0 = omega arith in rw (eq-eqb w 0 e)
letters_enough (suc k) (suc m) w h l = go (eqb w 0) refl (letters_enough k m (w / 256))
  where
    go : (c : Bool) → eqb w 0 ≡ c → (w / 256 ≤ k → w / 256 ≤ m → letters_in k (w / 256) ≡ letters_in m (w / 256))
        → unless c (letters_in k (w / 256) ++ (w % 256 ∷ [])) ≡ unless c (letters_in m (w / 256) ++ (w % 256 ∷ []))
    go true e f = refl
    go false e f = ap (λ (x : List ℕ). x ++ (w % 256 ∷ [])) (f (omega (arith, eqb-false w 0 e)) (omega (arith, eqb-false w 0 e)))

-- a letter more
pub letters_more : (w b : ℕ) → 0 < b → b < 256 → letters_of (w * 256 + b) ≡ letters_of w ++ (b ∷ [])
unfolding letters_in
letters_more w b h l = go (w * 256 + b) refl
  where
    go : (m : ℕ) → m ≡ w * 256 + b → letters_of m ≡ letters_of w ++ (b ∷ [])
    go zero e = absurd (omega arith)
    go (suc k) e =
        let d : suc k / 256 ≡ w = omega arith in
        let r : suc k % 256 ≡ b = omega arith in
        rw (ne_eqb (suc k) 0 (λ z. omega arith), d, r) (ap (λ (x : List ℕ). x ++ (b ∷ [])) (letters_enough k w w (omega arith) (omega arith)))

packed_on_is : (w : ℕ) (x : List ℕ) (b : ℕ) → packed_on w (x ++ (b ∷ [])) ≡ packed_on w x * 256 + b
packed_on_is w [] b = refl
packed_on_is w (a ∷ x) b = packed_on_is (w * 256 + a) x b

packed_in : (k w : ℕ) → w ≤ k → packed (letters_in k w) ≡ w
unfolding letters_in
packed_in zero w h = omega arith
packed_in (suc k) w h = go (eqb w 0) refl (packed_in k (w / 256))
  where
    go : (c : Bool) → eqb w 0 ≡ c → (w / 256 ≤ k → packed (letters_in k (w / 256)) ≡ w / 256) → packed (unless c (letters_in k (w / 256) ++ (w % 256 ∷ []))) ≡ w
    go true e f = sym (eqb-true w 0 e)
    go false e f = packed_on_is 0 (letters_in k (w / 256)) (w % 256) ∙ omega (arith, f (omega (arith, eqb-false w 0 e)))

pub packed_letters : (w : ℕ) → packed (letters_of w) ≡ w
packed_letters w = packed_in w w (omega arith)

-- bytes that are not 0
unfoldable pub full : List ℕ → Bool
full [] = true
full (b ∷ x) = let r = full x in andb (andb (ltb 0 b) (ltb b 256)) r

letters_on : (w : ℕ) (x : List ℕ) → full x ≡ true → letters_of (packed_on w x) ≡ letters_of w ++ x
unfolding full
letters_on w [] h = sym (append-nil (letters_of w))
letters_on w (b ∷ x) h =
    let q = (is_and (andb (ltb 0 b) (ltb b 256)) (full x) (is_and (ltb 0 b) (ltb b 256) (is_lt 0 b) (is_lt b 256)) (is_self (full x))).to h in
    letters_on (w * 256 + b) x q.1 ∙ ap (λ (y : List ℕ). y ++ x) (letters_more w b q.0.0 q.0.1) ∙ append_assoc (letters_of w) (b ∷ []) x

pub letters_packed : (x : List ℕ) → full x ≡ true → letters_of (packed x) ≡ x
unfolding letters_in
letters_packed x h = letters_on 0 x h

-- two names are the sameBytes where their numbers are
pub same_letters : (u w : ℕ) → same_bytes (letters_of u) (letters_of w) ≡ eqb u w
same_letters u w = go (eqb u w) refl
  where
    go : (c : Bool) → eqb u w ≡ c → same_bytes (letters_of u) (letters_of w) ≡ c
    go true e = (is_same_bytes (letters_of u) (letters_of w)).from (ap letters_of (eqb-true u w e))
    go false e = refutes (same_bytes (letters_of u) (letters_of w)) (is_same_bytes (letters_of u) (letters_of w)) (λ q. eqb-false u w e (sym (packed_letters u) ∙ ap packed q ∙ packed_letters w))

-- ---- how many there are

-- the first number with more than k letters
abbrev pub room : ℕ → ℕ
room zero = 1
room (suc k) = 256 * room k

room_some : (k : ℕ) → 1 ≤ room k
room_some zero = omega arith
room_some (suc k) = omega (arith, room_some k)

few : (k m w : ℕ) → w < room k → length (letters_in m w) ≤ k
unfolding letters_in
few k zero w h = omega arith
few zero (suc m) w h = let e : w ≡ 0 = omega arith in rw (eq-eqb w 0 e) (omega arith)
few (suc k) (suc m) w h = go (eqb w 0) (few k m (w / 256))
  where
    go : (c : Bool) → (w / 256 < room k → length (letters_in m (w / 256)) ≤ k) → length (unless c (letters_in m (w / 256) ++ (w % 256 ∷ []))) ≤ suc k
    go true f = omega arith
    go false f = omega (arith, length-append (letters_in m (w / 256)) (w % 256 ∷ []), f (omega arith))

many : (k m w : ℕ) → room k ≤ w → w ≤ m → k < length (letters_in m w)
unfolding letters_in
many k zero w h l = absurd (omega (arith, room_some k))
many zero (suc m) w h l = rw (ne_eqb w 0 (λ e. omega arith)) (omega (arith, length-append (letters_in m (w / 256)) (w % 256 ∷ [])))
many (suc k) (suc m) w h l =
    rw (ne_eqb w 0 (λ e. omega (arith, room_some k))) (omega (arith, length-append (letters_in m (w / 256)) (w % 256 ∷ []), many k m (w / 256) (omega arith) (omega (arith, room_some k))))

pub letters_few : (k w : ℕ) → w < room k → length (letters_of w) ≤ k
letters_few k w h = few k w w h

pub letters_many : (k w : ℕ) → room k ≤ w → k < length (letters_of w)
letters_many k w h = many k w w h (omega arith)

-- the first number with as many letters as a name may have
abbrev pub full_name : ℕ
full_name = room (longest - 1)

-- some name begins with fewer letters; with as many that are no word; with none that are more
pub viable_short : (w : ℕ) → w < full_name → true ≡ viable (letters_of w)
viable_short w h = rw (lt-ltb (length (letters_of w)) longest (omega (arith, letters_few (longest - 1) w h)))

pub viable_full : (w : ℕ) → full_name ≤ w → w < room longest → viable (letters_of w) ≡ not (reserved (letters_of w))
viable_full w h l =
    let m = letters_many (longest - 1) w h in
    rw (le-ltb (length (letters_of w)) longest (omega (arith, m)), eq-eqb (length (letters_of w)) longest (omega (arith, m, letters_few longest w l)))

pub viable_over : (w b : ℕ) → full_name ≤ w → viable (letters_of w ++ (b ∷ [])) ≡ false
viable_over w b h =
    let x = letters_of w ++ (b ∷ []) in
    let l : longest < length x = omega (arith, length-append (letters_of w) (b ∷ []), letters_many (longest - 1) w h) in
    rw (le-ltb (length x) longest (omega (arith, l)), ne_eqb (length x) longest (λ e. omega (arith, l, e)))

-- ---- the words

full_word : (c : Word) → full (spelling c) ≡ true
unfolding full
full_word (joins and_word) = refl
full_word (joins or_word) = refl
full_word (joins sep_word) = refl
full_word (joins wand_word) = refl
full_word denies = refl
full_word (relates equal_word) = refl
full_word (relates distinct_word) = refl
full_word (relates pto_word) = refl
full_word (relates ls_word) = refl

pub letters_word : (c : Word) (w : ℕ) → w ≡ packed (spelling c) → letters_of w ≡ spelling c
letters_word c w e = ap letters_of e ∙ letters_packed (spelling c) (full_word c)

pub word_held : (c : Word) (w : ℕ) → w ≡ packed (spelling c) → true ≡ reserved (letters_of w)
word_held c w e = sym (ap reserved (letters_word c w e) ∙ spelling_reserved c)

pub no_word_held : (w : ℕ) → ((c : Word) → ¬ (w ≡ packed (spelling c))) → false ≡ reserved (letters_of w)
no_word_held w f = sym (none_among words (letters_of w) (λ c e. f c (sym (packed_letters w) ∙ ap packed (sym e))))
