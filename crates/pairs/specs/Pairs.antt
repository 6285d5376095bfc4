-- The fixed tables of sets and parts, and the test that each passes. Assumes nothing: these are definitions.
use Rattle.std.specs.Prelude.{◌≡◌, Bool, true, false, List, [], ◌∷◌, ℕ, suc, ◌+◌, ◌-◌, ◌*◌, ◌/◌, ◌%◌, ◌^◌, ◌<◌, ◌≤◌, eqb, leb, ltb, length, get_or, take, drop}
use Rattle.std.specs.Int.Bits.{bit_and}
use Rattle.logic.specs.Tests.{andb, pick}
use Rattle.logic.specs.Book.{most}
use Rattle.cells.specs.Cells.{full}

-- as many sets as there are over n locations, and as many pairs of a set and a part of it: with eight "6,561 pairs with the same
-- rule", and with six 729
abbrev pub sets : ℕ → ℕ
sets n = 2 ^ n

abbrev pub pairs : ℕ → ℕ
pairs n = 3 ^ n

-- a table has for each set the place where its stretch begins, and then the pairs
abbrev pub size : ℕ → ℕ
size n = sets n + pairs n

-- a pair is one number, 256 · set + part
abbrev pub set_of : ℕ → ℕ
set_of x = x / full

abbrev pub part_of : ℕ → ℕ
part_of x = x % full

abbrev pub pair : ℕ → ℕ → ℕ
pair a m = a * full + m

-- "ordered by set and then by part": after x comes the next part of its set, or the empty part of the next set
unfoldable pub next : ℕ → ℕ
next x =
    let part = pair (set_of x) (bit_and (part_of x + (full - set_of x)) (set_of x)) in
    pick (eqb (part_of x) (set_of x)) (pair (suc (set_of x)) 0) part

-- each pair is the one after the one before it, and the last is all of the last set
unfoldable pub follow : ℕ → ℕ → List ℕ → Bool
follow n x [] = eqb x (pair (sets n - 1) (sets n - 1))
follow n x (y ∷ ys) = let r = follow n y ys in andb (eqb y (next x)) r

-- and the first is the empty part of the empty set
unfoldable pub in_order : ℕ → List ℕ → Bool
in_order n [] = false
in_order n (x ∷ xs) = andb (eqb x 0) (follow n x xs)

-- the stretches of the sets from a on begin at those places, below z, where xs is what there is from place k on
unfoldable pub begins : ℕ → ℕ → ℕ → List ℕ → List ℕ → Bool
begins z a k [] xs = true
begins z a k (b ∷ bs) xs =
    let ys = drop (b - k) xs in
    let r = begins z (suc a) b bs ys in
    andb (leb k b) (andb (ltb b z) (andb (eqb (get_or ys 0 0) (pair a 0)) r))

-- the test of the whole table for n locations
pub record Listed (n : ℕ) (t : List ℕ) : Type 0 where
  pub long : length t ≡ size n
  pub ordered : in_order n (drop (sets n) t) ≡ true
  pub begun : begins (size n) 0 (sets n) (take (sets n) t) (drop (sets n) t) ≡ true

-- t is a table for l locations or more
pub record Lists (l : ℕ) (t : List ℕ) : Type 0 where
  pub locs : ℕ
  pub enough : l ≤ locs
  pub few : locs ≤ most
  pub passed : Listed locs t

-- the part at place i
abbrev pub part_at : List ℕ → ℕ → ℕ
part_at t i = part_of (get_or t i 0)

-- t is a table, and its place i is in the stretch of set a
pub record Inside (t : List ℕ) (i a : ℕ) : Type 0 where
  pub locs : ℕ
  pub few : locs ≤ most
  pub passed : Listed locs t
  pub low : sets locs ≤ i
  pub high : i < length t
  pub set : set_of (get_or t i 0) ≡ a
