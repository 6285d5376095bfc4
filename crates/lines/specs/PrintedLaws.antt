-- Laws of what is printed: a cell more on a line, and how long the whole is at most. Assumes nothing.
use Rattle.std.specs.Prelude.{◌≡◌, ℕ, suc, ◌+◌, ◌-◌, ◌*◌, ◌^◌, ◌<◌, ◌≤◌, length, drop, get_or}
use Rattle.std.proofs.Math.Path.{refl, sym, ap}
use Rattle.std.proofs.Common.{ap₂, subst, ◌∙◌, add-one, length-take, take-append-drop, take-suc, get_or-take, get_or-drop, eq-eqb, ne_eqb}
use mathlib.Core.List.{List, [], ◌∷◌, ◌++◌, append-nil, append_assoc}
use Rattle.std.proofs.Math.Decide.{ℕ_discrete}
use native.Mathlib.Omega.{arith}
use Rattle.std.proofs.Math.ListN.{take, length-append}
use Rattle.logic.specs.declared.Answer.{Answer}
use Rattle.logic.specs.Numbers.{yes_number}
use Rattle.logic.specs.Book.{most}
use Rattle.put.specs.Puts.{Room}
use Rattle.put.specs.Decimal.{decimal, numbered}
use Rattle.put.specs.DecimalLaws.{decimal_short, numbered_short}
use Rattle.lines.specs.Printed.{line_feed, space, answer_word, place_word, tried_word, stack_word, heap_word, first_line, spaced, listed, line, stack_line, Locations, printed_value, heap_line, printed_model, printed}

-- ---- cells

pub value_none : (x : ℕ) → x ≡ 255 → 45 ∷ [] ≡ printed_value x
unfolding printed_value
value_none x e = rw (eq-eqb x 255 e)

pub value_some : (x y : ℕ) → ¬ (x ≡ 255) → y ≡ x → decimal y ≡ printed_value x
unfolding printed_value
value_some x y f e = rw (ne_eqb x 255 f) (ap decimal e)

module _ (f : ℕ → List ℕ) where
  listed_append : (xs ys : List ℕ) → listed f (xs ++ ys) ≡ listed f xs ++ listed f ys
  unfolding listed
  listed_append [] ys = refl
  listed_append (x ∷ xs) ys = ap (λ (r : List ℕ). spaced f x ++ r) (listed_append xs ys) ∙ sym (append_assoc (spaced f x) (listed f xs) (listed f ys))

  pub listed_none : (xs : List ℕ) → [] ≡ listed f (take 0 xs)
  unfolding listed
  listed_none xs = refl

  module _ (xs : List ℕ) (i : ℕ) (l : i < length xs) where
    pub listed_more : listed f (take i xs) ++ spaced f (get_or xs i 0) ≡ listed f (take (i + 1) xs)
    unfolding listed
    listed_more =
        ap (λ (r : List ℕ). listed f (take i xs) ++ r) (sym (append-nil (spaced f (get_or xs i 0))))
        ∙ sym (listed_append (take i xs) (get_or xs i 0 ∷ []))
        ∙ ap (listed f) (sym (take-suc xs i 0 l) ∙ ap (λ (k : ℕ). take k xs) (sym (add-one i)))

    -- room for all the cells is room for one cell more
    pub room_listed : (at : ℕ) (o : List ℕ) → Room at (listed f xs) o → Room at (listed f (take i xs) ++ spaced f (get_or xs i 0)) o
    room_listed at o r =
        let all : listed f xs ≡ listed f (take (i + 1) xs) ++ listed f (drop (i + 1) xs) =
        ap (listed f) (sym (take-append-drop (i + 1) xs)) ∙ listed_append (take (i + 1) xs) (drop (i + 1) xs) in
        omega (arith, r, ap length all, length-append (listed f (take (i + 1) xs)) (listed f (drop (i + 1) xs)), ap length listed_more)

-- locations are written as values are
listed_locations : (xs : List ℕ) → ((i : ℕ) → i < length xs → get_or xs i 0 < 255) → listed printed_value xs ≡ listed decimal xs
unfolding listed spaced
listed_locations [] f = refl
listed_locations (x ∷ xs) f =
    let ih = listed_locations xs (λ i l. f (suc i) (omega arith)) in
    let low = f 0 (omega arith) in
    ap₂ (λ (r s : List ℕ). (space ∷ []) ++ r ++ s) (sym (value_some x x (λ e. omega arith) refl)) ih

-- ---- how long it is at most

first_short : (a : Answer) → a.number < 2 ^ 64 → a.place < 2 ^ 64 → a.tried < 2 ^ 64 → length (first_line a) ≤ 82
unfolding first_line
first_short a p q r =
    let x = numbered answer_word a.number in
    let y = numbered place_word a.place in
    let z = numbered tried_word a.tried in
    omega (arith, length-append (x ++ y ++ z) (line_feed ∷ []), length-append (x ++ y) z, length-append x y, numbered_short answer_word a.number p, numbered_short place_word a.place q, numbered_short tried_word a.tried r)

value_short : (x : ℕ) → x < 256 → length (printed_value x) ≤ 3
value_short x l = go (ℕ_discrete x 255)
  where
    go : Dec (x ≡ 255) → length (printed_value x) ≤ 3
    go (yes e) = omega (arith, ap length (value_none x e))
    go (no f) = omega (arith, ap length (value_some x x f refl), decimal_short 2 x (omega arith))

module _ (f : ℕ → List ℕ) (short : (x : ℕ) → x < 256 → length (f x) ≤ 3) where
  listed_short : (xs : List ℕ) → ((i : ℕ) → i < length xs → get_or xs i 0 < 256) → length (listed f xs) ≤ 4 * length xs
  unfolding listed spaced
  listed_short [] g = omega arith
  listed_short (x ∷ xs) g =
      let ih = listed_short xs (λ i l. g (suc i) (omega arith)) in
      omega (arith, length-append ((space ∷ []) ++ f x) (listed f xs), length-append (space ∷ []) (f x), short x (g 0 (omega arith)), ih)

  line_short : (w xs : List ℕ) → ((i : ℕ) → i < length xs → get_or xs i 0 < 256) → length (line w f xs) ≤ length w + 4 * length xs + 1
  unfolding line
  line_short w xs g =
      omega (arith, length-append (w ++ listed f xs) (line_feed ∷ []), length-append w (listed f xs), listed_short xs g)

get_d_front : (v : ℕ) (m : List ℕ) → ((i : ℕ) → get_or m i 0 < 256) → (i : ℕ) → i < length (take v m) → get_or (take v m) i 0 < 256
get_d_front v m f i l =
    let e = get_or-take v m i 0 (omega (arith, length-take v m)) in
    omega (arith, f i)

get_d_behind : (v n : ℕ) (m : List ℕ) → ((i : ℕ) → get_or m i 0 < 256) → (i : ℕ) → i < length (take n (drop v m)) → get_or (take n (drop v m)) i 0 < 256
get_d_behind v n m f i l =
    let e = get_or-take n (drop v m) i 0 (omega (arith, length-take n (drop v m))) ∙ get_or-drop v m i 0 in
    omega (arith, f (v + i))

pub room_printed : (a : Answer) (v n : ℕ) (m o : List ℕ) → a.number < 2 ^ 64 → a.place < 2 ^ 64 → a.tried < 2 ^ 64 → v ≤ most → n ≤ most
    → ((i : ℕ) → get_or m i 0 < 256) → 256 ≤ length o → Room 0 (first_line a ++ printed_model v n m) o
unfolding printed_model
room_printed a v n m o p q r k j f l =
    omega (
      arith,
      length-append (first_line a) (stack_line v m ++ heap_line v n m),
      length-append (stack_line v m) (heap_line v n m),
      first_short a p q r,
      line_short decimal (λ x h. decimal_short 2 x (omega arith)) stack_word (take v m) (get_d_front v m f),
      line_short printed_value value_short heap_word (take n (drop v m)) (get_d_behind v n m f),
      length-take v m,
      length-take n (drop v m),
    )

-- ---- the whole

-- a model's lines, as the code cuts and writes the model
pub model_cut : (v n : ℕ) (m : List ℕ) → Locations v m → line stack_word printed_value (take (v - 0) m) ++ line heap_word printed_value (take (v + n - v) (drop v m)) ≡ printed_model v n m
unfolding printed_model line
model_cut v n m f =
    let p : v - 0 ≡ v = omega arith in
    let q : v + n - v ≡ n = omega arith in
    let same = listed_locations (take v m) (λ i l. let k : i < v = omega (arith, length-take v m) in subst (λ (x : ℕ). x < 255) (sym (get_or-take v m i 0 k)) (f i k)) in
    ap₂ (λ (i j : ℕ). line stack_word printed_value (take i m) ++ line heap_word printed_value (take j (drop v m))) p q
    ∙ ap (λ (r : List ℕ). stack_word ++ r ++ (line_feed ∷ []) ++ heap_line v n m) same

module _ (a : Answer) (v n : ℕ) (m : List ℕ) where
  pub printed_no : ¬ (a.number ≡ yes_number) → first_line a ≡ printed a v n m
  unfolding printed
  printed_no f = rw (ne_eqb a.number yes_number f)

  pub printed_yes : a.number ≡ yes_number → first_line a ++ printed_model v n m ≡ printed a v n m
  unfolding printed
  printed_yes e = rw (eq-eqb a.number yes_number e)
