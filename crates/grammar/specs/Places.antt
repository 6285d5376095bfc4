-- Where a text is refused: 26, 27 and 28 with their places. Assumes nothing: these are definitions.
use Rattle.std.specs.Prelude.{◌≡◌, Bool, false, List, [], ◌∷◌, ◌++◌, ℕ, suc, ◌+◌, ◌≤◌, ◌<◌, ltb, length, take}
use Rattle.logic.specs.Numbers.{bad_text, many_nodes, many_names}
use Rattle.logic.specs.Book.{most, most_nodes}
use Rattle.logic.specs.Tests.{orb, same_bytes}
use Rattle.grammar.specs.Phrase.{choose, Phrase}
use Rattle.grammar.specs.Grammar.{Event, named, finished, Means}

-- some well-formed text begins with p
abbrev pub Goes : List ℕ → Type 0
Goes p = (u : List ℕ) × (F : Phrase) × (es : List Event) × Means (p ++ u) F es

-- "26 bad text, at the first byte with which no well-formed text can go on (the length if it stops early)"
pub record BadAt (s : List ℕ) (k : ℕ) : Type 0 where
  pub inside : k ≤ length s
  pub goes : Goes (take k s)
  pub stops : k < length s → ¬ Goes (take (suc k) s)
  pub none : (F : Phrase) (es : List Event) → ¬ Means s F es

-- the byte by which it is finished: "(a name by the byte after it)"
abbrev pub finished_by : Event → ℕ
finished_by (named x i j) = j
finished_by (finished q m) = q

-- those of the events that are "finished before" byte k
unfoldable pub before : ℕ → List Event → List Event
before k [] = []
before k (e ∷ es) = let r = before k es in choose (ltb (finished_by e) k) (e ∷ r) r

-- "27 and 28 count only items finished before 26's place"; in a text with no such place, all
pub data Finished (s : List ℕ) (es : List Event) : Type 0 where
  all_of_it : (F : Phrase) → Means s F es → Finished s es
  up_to_26 : (k : ℕ) (u : List ℕ) (F : Phrase) (fs : List Event) → BadAt s k → Means (take k s ++ u) F fs → es ≡ before k fs → Finished s es

-- x is one of the names
unfoldable pub known : List (List ℕ) → List ℕ → Bool
known [] x = false
known (y ∷ ns) x = let r = known ns x in orb (same_bytes y x) r

-- "names are numbered as they first appear": the names so far, with x
abbrev pub note : List (List ℕ) → List ℕ → List (List ℕ)
note ns x = choose (known ns x) ns (ns ++ (x ∷ []))

-- "27 more than 64 nodes, at the last byte of the item that passes 64": after k nodes, the item that is finished at q
pub data PassesAt : ℕ → List Event → ℕ → Type 0 where
  passing : {k q m : ℕ} {es : List Event} → k ≤ most_nodes → most_nodes < k + m → PassesAt k (finished q m ∷ es) q
  past_item : {k p q m : ℕ} {es : List Event} → PassesAt (k + m) es q → PassesAt k (finished p m ∷ es) q
  past_name : {k i j q : ℕ} {x : List ℕ} {es : List Event} → PassesAt k es q → PassesAt k (named x i j ∷ es) q

-- "28 a seventh name, at its first byte"; "a ninth name is refused": one more than k, and after the names ns the one that begins
-- at i
pub data NameOverAt (k : ℕ) : List (List ℕ) → List Event → ℕ → Type 0 where
  one_over : {ns : List (List ℕ)} {i j : ℕ} {x : List ℕ} {es : List Event} → known ns x ≡ false → length ns ≡ k → NameOverAt k ns (named x i j ∷ es) i
  after_name : {ns : List (List ℕ)} {i j q : ℕ} {x : List ℕ} {es : List Event} → NameOverAt k (note ns x) es q → NameOverAt k ns (named x i j ∷ es) q
  after_item : {ns : List (List ℕ)} {p q m : ℕ} {es : List Event} → NameOverAt k ns es q → NameOverAt k ns (finished p m ∷ es) q

pub data ComplaintWithin (k : ℕ) (s : List ℕ) : ℕ → ℕ → Type 0 where
  bad_at : (i : ℕ) → BadAt s i → ComplaintWithin k s bad_text i
  passes_at : (es : List Event) (q : ℕ) → Finished s es → PassesAt 0 es q → ComplaintWithin k s many_nodes q
  name_over_at : (es : List Event) (i : ℕ) → Finished s es → NameOverAt k [] es i → ComplaintWithin k s many_names i

abbrev pub Complaint : List ℕ → ℕ → ℕ → Type 0
Complaint s m q = ComplaintWithin most s m q

-- "the lowest place decides": the text is refused with number m at place q
pub record RefusedWithin (k : ℕ) (s : List ℕ) (m q : ℕ) : Type 0 where
  pub complaint : ComplaintWithin k s m q
  pub lowest : (m' q' : ℕ) → ComplaintWithin k s m' q' → q ≤ q'

abbrev pub Refused : List ℕ → ℕ → ℕ → Type 0
Refused s m q = RefusedWithin most s m q
