-- The tests by which the computed truth is worked out. Each is a Bool that computes; specs/Agree.antt and specs/Chains.antt
-- prove what each says. Assumes nothing: these are definitions.
use Rattle.std.specs.Prelude.{Bool, true, false, not, List, [], ◌∷◌, ℕ, zero, suc, pred, ◌+◌, ◌/◌, ◌%◌, eqb, ltb}
use Rattle.logic.specs.declared.Profile.{Profile}
use Rattle.logic.specs.declared.Profile.TheVariants.{Strong, Ordinary}
use Rattle.logic.specs.Heap.{Map}

abbrev pub andb : Bool → Bool → Bool
andb true b = b
andb false b = false

abbrev pub orb : Bool → Bool → Bool
orb true b = true
orb false b = b

abbrev pub pickb : Bool → Bool → Bool → Bool
pickb true a b = a
pickb false a b = b

abbrev pub pick : Bool → ℕ → ℕ → ℕ
pick true a b = a
pick false a b = b

unfoldable pub same_bytes : List ℕ → List ℕ → Bool
same_bytes [] [] = true
same_bytes [] (y ∷ ys) = false
same_bytes (x ∷ xs) [] = false
same_bytes (x ∷ xs) (y ∷ ys) = let r = same_bytes xs ys in andb (eqb x y) r

-- the test passes at some number below k; it is tried upward, up to the first at which it passes
unfoldable pub any : ℕ → (ℕ → Bool) → Bool
any zero f = false
any (suc k) f = let r = f k in orb (any k f) r

-- the test passes at each number below k
unfoldable pub all : ℕ → (ℕ → Bool) → Bool
all zero f = true
all (suc k) f = let r = f k in andb (all k f) r

-- digit i of m in base b, digit 0 the lowest
unfoldable pub digit : ℕ → ℕ → ℕ → ℕ
digit b m zero = m % b
digit b m (suc i) = digit b (m / b) i

-- "its number (bit ℓ−1 for location ℓ)": location ℓ is in part m. Nil is in no part
unfoldable pub in_part : ℕ → ℕ → Bool
in_part m zero = false
in_part m (suc i) = eqb (digit 2 m i) 1

-- "Digits in base n+2 for locations 1 to n, location 1 lowest": the heap of number c
unfoldable pub heap_of : ℕ → ℕ → Map
heap_of n c zero = 0
heap_of n c (suc i) = pick (ltb i n) (digit (n + 2) c i) 0

abbrev pub allocated : Map → ℕ → Bool
allocated h ℓ = not (eqb (h ℓ) 0)

-- h on part m, and on the rest
unfoldable pub part : Map → ℕ → Map
part h m ℓ = pick (in_part m ℓ) (h ℓ) 0

unfoldable pub rest : Map → ℕ → Map
rest h m ℓ = pick (in_part m ℓ) 0 (h ℓ)

-- "g with h together"
unfoldable pub union : Map → Map → Map
union g h ℓ = pick (eqb (g ℓ) 0) (h ℓ) (g ℓ)

-- h without location a
unfoldable pub without : ℕ → Map → Map
without a h ℓ = pick (eqb ℓ a) 0 (h ℓ)

-- ℓ is nil's location or that of a declared variable
unfoldable pub named : ℕ → Map → ℕ → Bool
named v s ℓ = any (suc v) (λ x. eqb (s x) ℓ)

unfoldable pub empty : ℕ → Map → Bool
empty n h = all (suc n) (λ ℓ. eqb (h ℓ) 0)

-- ℓ is some location's value
unfoldable pub is_value : ℕ → Map → ℕ → Bool
is_value n h ℓ = any (suc n) (λ j. eqb (h j) (suc ℓ))

-- ℓ is allocated or is some location's value
unfoldable pub in_locs : ℕ → Map → ℕ → Bool
in_locs n h ℓ = let r = is_value n h ℓ in orb (allocated h ℓ) r

-- every location of part m is allocated
unfoldable pub within : ℕ → ℕ → Map → Bool
within n m h = all (suc n) (λ ℓ. orb (not (in_part m ℓ)) (allocated h ℓ))

-- two pieces may meet at ℓ
abbrev pub may_meet : Profile → ℕ → Map → ℕ → Bool
may_meet Strong v s ℓ = named v s ℓ
may_meet Ordinary v s ℓ = true

-- ℓ is not allocated in both, and the two may meet there if it is in both locs
unfoldable pub apart_at : Profile → ℕ → ℕ → Map → Map → Map → ℕ → Bool
apart_at π v n s g h ℓ =
    let q = may_meet π v s ℓ in
    let r = orb (not (in_locs n h ℓ)) q in
    let t = orb (not (in_locs n g ℓ)) r in
    andb (not (andb (allocated g ℓ) (allocated h ℓ))) t

-- g and h are disjoint as the profile asks
unfoldable pub apart : Profile → ℕ → ℕ → Map → Map → Map → Bool
apart π v n s g h = all (suc n) (apart_at π v n s g h)

-- D is just a, and its value is b; nil is never allocated
unfoldable pub points : ℕ → ℕ → ℕ → Map → Bool
points n a b h = andb (not (eqb a 0)) (all (suc n) (λ ℓ. eqb (h ℓ) (pick (eqb ℓ a) (suc b) 0)))

-- at most k links from a to b, all locations on the way different, and D is just those before the last: a location that is
-- left is taken out of the heap, so it is not met again
unfoldable pub chain : ℕ → ℕ → ℕ → ℕ → Map → Bool
chain n zero a b h = andb (eqb a b) (empty n h)
chain n (suc k) a b h =
    let r = chain n k (pred (h a)) b (without a h) in
    let q = andb (allocated h a) r in
    let e = empty n h in
    pickb (eqb a b) e q

-- the location after i links from a
unfoldable pub stepped : Map → ℕ → ℕ → ℕ
stepped h a zero = a
stepped h a (suc i) = pred (h (stepped h a i))

-- k links from a, all locations on the way different
unfoldable pub path_from : Map → ℕ → ℕ → Bool
path_from h k a =
    let r = all (suc k) (λ j. all j (λ i. not (eqb (stepped h a i) (stepped h a j)))) in
    andb (all k (λ i. allocated h (stepped h a i))) r

-- no simple path of more than p links: none of p + 1
unfoldable pub short : ℕ → ℕ → Map → Bool
short n p h = not (any (suc n) (path_from h (suc p)))

-- part m of h, which passes A, and the rest, which passes B, are strongly disjoint
unfoldable pub sep_at : Profile → ℕ → ℕ → Map → Map → (Map → Bool) → (Map → Bool) → ℕ → Bool
sep_at π v n s h A B m =
    let q = B (rest h m) in
    let r = andb (A (part h m)) q in
    let t = andb (apart π v n s (part h m) (rest h m)) r in
    andb (within n m h) t

-- heap number c, which passes A, is strongly disjoint from h, and the two together pass B
unfoldable pub sept_at : Profile → ℕ → ℕ → Map → Map → (Map → Bool) → (Map → Bool) → ℕ → Bool
sept_at π v n s h A B c =
    let q = B (union (heap_of n c) h) in
    let r = andb (A (heap_of n c)) q in
    andb (apart π v n s (heap_of n c) h) r
