-- The nodes of a formula in order of completion, in a table. Assumes nothing.
use Rattle.std.specs.Prelude.{◌≡◌, refl, List, [], ◌∷◌, ◌++◌, ℕ, ◌+◌, ◌-◌, ◌≤◌, ◌*◌, length, get_or}
use Rattle.std.proofs.Common.{sym, ap, ◌∙◌, subst, append_assoc, arith, length-append, get_or-append-add}
use Rattle.logic.specs.Formula.{Form}
use Rattle.logic.specs.Formula.Form.{same, diff, pts, ls, conj, disj, but, neg, sep, sept}
use Rattle.grammar.specs.Listing.{size_of, both, listing}
use Rattle.grammar.specs.ListingLaws.{Node, Two, Has}

pub size_some : (F : Form) → 1 ≤ size_of F
unfolding size_of
size_some (same x y) = omega arith
size_some (diff x y) = omega arith
size_some (pts x y) = omega arith
size_some (ls x y) = omega arith
size_some (conj a b) = omega arith
size_some (disj a b) = omega arith
size_some (but a b) = omega arith
size_some (neg a) = omega arith
size_some (sep a b) = omega arith
size_some (sept a b) = omega arith

both_long : (o k : ℕ) (a b : Form) → length (listing k a) ≡ 3 * size_of a → length (listing (k + size_of a) b) ≡ 3 * size_of b
    → length (both o (k + size_of a) (k + size_of a + size_of b) (listing k a) (listing (k + size_of a) b)) ≡ 3 * (size_of a + size_of b + 1)
both_long o k a b p q =
    let last = o ∷ (k + size_of a - 1) ∷ (k + size_of a + size_of b - 1) ∷ [] in
    omega (arith, length-append (listing k a) (listing (k + size_of a) b ++ last), length-append (listing (k + size_of a) b) last)

pub listing_long : (k : ℕ) (F : Form) → length (listing k F) ≡ 3 * size_of F
unfolding listing size_of
listing_long k (same x y) = refl
listing_long k (diff x y) = refl
listing_long k (pts x y) = refl
listing_long k (ls x y) = refl
listing_long k (conj a b) = both_long 5 k a b (listing_long k a) (listing_long (k + size_of a) b)
listing_long k (disj a b) = both_long 6 k a b (listing_long k a) (listing_long (k + size_of a) b)
listing_long k (but a b) = both_long 7 k a b (listing_long k a) (listing_long (k + size_of a) b)
listing_long k (neg a) = omega (arith, length-append (listing k a) (8 ∷ (k + size_of a - 1) ∷ 0 ∷ []), listing_long k a)
listing_long k (sep a b) = both_long 9 k a b (listing_long k a) (listing_long (k + size_of a) b)
listing_long k (sept a b) = both_long 10 k a b (listing_long k a) (listing_long (k + size_of a) b)

node_at : (pre post : List ℕ) (k o x y : ℕ) → length pre ≡ 3 * k → Node (pre ++ (o ∷ x ∷ y ∷ post)) k o x y
node_at pre post k o x y e =
    let at : (i : ℕ) → get_or (pre ++ (o ∷ x ∷ y ∷ post)) (3 * k + i) 0 ≡ get_or (o ∷ x ∷ y ∷ post) i 0 = λ i. ap (λ (m : ℕ). get_or (pre ++ (o ∷ x ∷ y ∷ post)) (m + i) 0) (sym e) ∙ get_or-append-add pre (o ∷ x ∷ y ∷ post) i 0 in
    let zero_more : 3 * k ≡ 3 * k + 0 = omega arith in
    (ap (λ (m : ℕ). get_or (pre ++ (o ∷ x ∷ y ∷ post)) m 0) zero_more ∙ at 0, at 1, at 2)

-- regrouping of what stands before and behind
into_a : (pre a b post : List ℕ) (o m n : ℕ) → pre ++ (both o m n a b ++ post) ≡ pre ++ (a ++ (b ++ (o ∷ (m - 1) ∷ (n - 1) ∷ post)))
into_a pre a b post o m n = ap (λ (z : List ℕ). pre ++ z) (append_assoc a (b ++ (o ∷ (m - 1) ∷ (n - 1) ∷ [])) post ∙ ap (λ (z : List ℕ). a ++ z) (append_assoc b (o ∷ (m - 1) ∷ (n - 1) ∷ []) post))

into_b : (pre a rest : List ℕ) → pre ++ (a ++ rest) ≡ (pre ++ a) ++ rest
into_b pre a rest = sym (append_assoc pre a rest)

-- operator o over the listings of a and b
pair_has : (o : ℕ) (a b : Form) (k : ℕ) (pre post : List ℕ) → length pre ≡ 3 * k
    → ((p q : List ℕ) → length p ≡ 3 * k → Has (p ++ (listing k a ++ q)) k a)
    → ((p q : List ℕ) → length p ≡ 3 * (k + size_of a) → Has (p ++ (listing (k + size_of a) b ++ q)) (k + size_of a) b)
    → (w : List ℕ) → w ≡ pre ++ (both o (k + size_of a) (k + size_of a + size_of b) (listing k a) (listing (k + size_of a) b) ++ post)
    → Has w k a × Has w (k + size_of a) b × Two w o k (size_of a) (size_of b)
pair_has o a b k pre post e f g w is =
    let A = listing k a in
    let B = listing (k + size_of a) b in
    let x = k + size_of a - 1 in
    let y = k + size_of a + size_of b - 1 in
    let la = listing_long k a in
    let lb = listing_long (k + size_of a) b in
    let first : w ≡ pre ++ (A ++ (B ++ (o ∷ x ∷ y ∷ post))) = is ∙ into_a pre A B post o (k + size_of a) (k + size_of a + size_of b) in
    let second : w ≡ (pre ++ A) ++ (B ++ (o ∷ x ∷ y ∷ post)) = first ∙ into_b pre A (B ++ (o ∷ x ∷ y ∷ post)) in
    let third : w ≡ ((pre ++ A) ++ B) ++ (o ∷ x ∷ y ∷ post) = second ∙ into_b (pre ++ A) B (o ∷ x ∷ y ∷ post) in (
      subst (λ (z : List ℕ). Has z k a) (sym first) (f pre (B ++ (o ∷ x ∷ y ∷ post)) e),
      subst (λ (z : List ℕ). Has z (k + size_of a) b) (sym second) (g (pre ++ A) (o ∷ x ∷ y ∷ post) (omega (arith, length-append pre A))),
      subst (λ (z : List ℕ). Node z (k + size_of a + size_of b) o x y) (sym third) (node_at ((pre ++ A) ++ B) post (k + size_of a + size_of b) o x y (omega (arith, length-append (pre ++ A) B, length-append pre A))),
    )

pub has_listing : (F : Form) (k : ℕ) (pre post : List ℕ) → length pre ≡ 3 * k → Has (pre ++ (listing k F ++ post)) k F
unfolding Has listing
has_listing (same x y) k pre post e = node_at pre post k 1 x y e
has_listing (diff x y) k pre post e = node_at pre post k 2 x y e
has_listing (pts x y) k pre post e = node_at pre post k 3 x y e
has_listing (ls x y) k pre post e = node_at pre post k 4 x y e
has_listing (conj a b) k pre post e = pair_has 5 a b k pre post e (has_listing a k) (has_listing b (k + size_of a)) _ refl
has_listing (disj a b) k pre post e = pair_has 6 a b k pre post e (has_listing a k) (has_listing b (k + size_of a)) _ refl
has_listing (but a b) k pre post e = pair_has 7 a b k pre post e (has_listing a k) (has_listing b (k + size_of a)) _ refl
has_listing (neg a) k pre post e =
    let A = listing k a in
    let x = k + size_of a - 1 in
    let first : pre ++ ((A ++ (8 ∷ x ∷ 0 ∷ [])) ++ post) ≡ pre ++ (A ++ (8 ∷ x ∷ 0 ∷ post)) = ap (λ (z : List ℕ). pre ++ z) (append_assoc A (8 ∷ x ∷ 0 ∷ []) post) in (
      subst (λ (z : List ℕ). Has z k a) (sym first) (has_listing a k pre (8 ∷ x ∷ 0 ∷ post) e),
      subst (λ (z : List ℕ). Node z (k + size_of a) 8 x 0) (sym (first ∙ into_b pre A (8 ∷ x ∷ 0 ∷ post))) (node_at (pre ++ A) post (k + size_of a) 8 x 0 (omega (arith, length-append pre A, listing_long k a))),
    )
has_listing (sep a b) k pre post e = pair_has 9 a b k pre post e (has_listing a k) (has_listing b (k + size_of a)) _ refl
has_listing (sept a b) k pre post e = pair_has 10 a b k pre post e (has_listing a k) (has_listing b (k + size_of a)) _ refl
