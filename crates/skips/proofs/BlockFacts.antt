-- Which blocks hold no lowest fit: a fact about the digits that the block shares says it of all its candidates. Assumes nothing.
use Rattle.std.specs.Prelude.{◌≡◌, Bool, eqb, ltb}
use Rattle.std.proofs.Math.Path.{sym, subst, subst₂, ap}
use Rattle.std.proofs.Common.{◌∙◌, div-one, arith, lt-ltb, le-ltb, eq-eqb, ne_eqb}
use Prim.Native.Nat.{ℕ, suc, ◌+◌, ◌-◌, ◌/◌, ◌<◌, ◌≤◌}
use Rattle.std.proofs.Math.Decide.{dec_lt, ℕ_discrete}
use Rattle.logic.specs.declared.Profile.{Profile}
use Rattle.logic.specs.Heap.{Map, Heap, Named}
use Rattle.logic.specs.Formula.{Form}
use Rattle.logic.specs.Paths.{Path}
use Rattle.logic.specs.Tests.{pick, heap_of}
use Rattle.logic.specs.Digits.{num_of}
use Rattle.logic.proofs.Agree.{heap_of_heap}
use Rattle.logic.specs.Candidates.{stack_of}
use Rattle.logic.specs.Search.{CandidateFits}
use Rattle.laws.specs.Renumbering.{renumbered_digit, new_heap}
use Rattle.laws.proofs.RenumberingLaws.{new_heap_is}
use Rattle.laws.specs.Exchange.{exchange, exchanged_heap}
use Rattle.laws.proofs.ExchangeLaws.{exchange_first, exchange_second, exchange_other, exchange_renumbering}
use Rattle.skips.specs.Counts.{incoming, outgoing, above}
use Rattle.skips.proofs.CountLaws.{incoming_same, incoming_sub, out_none, out_le, out_same, above_sub, above_same}
use Rattle.skips.specs.Facts.{Digits, Caps, Hopeless}
use Rattle.skips.proofs.LowestLaws.{labels_in_order}
use Rattle.skips.proofs.UnnamedLaws.{heap_not_lower}
use Rattle.skips.specs.Order.{Lower}
use Rattle.skips.proofs.Order.{lt_lower}
use Rattle.skips.specs.Blocks.{most_outgoing}
use Rattle.skips.proofs.BlockLaws.{weight_first, block_heap, block_whole_stack, block_stack}
use Rattle.skips.specs.BlockFacts.{SkippableAt}

out_most_is : (j n : ℕ) (g h : Map) (ℓ : ℕ) → Heap n g → ((i : ℕ) → j < i → g i ≡ h i) → outgoing g ℓ ≤ most_outgoing j h ℓ
unfolding most_outgoing
out_most_is j n g h ℓ k e = go (dec_lt j ℓ) (ℕ_discrete ℓ 0)
  where
    go : Dec (j < ℓ) → Dec (ℓ ≡ 0) → outgoing g ℓ ≤ pick (ltb j ℓ) (outgoing h ℓ) (pick (eqb ℓ 0) 0 1)
    go (yes l) w = rw (lt-ltb j ℓ l) (omega (arith, out_same g h ℓ (e ℓ l)))
    go (no l) (yes z) = rw (le-ltb j ℓ (omega arith), eq-eqb ℓ 0 z) (omega (arith, out_none g ℓ (ap g z ∙ k.nil)))
    go (no l) (no z) = rw (le-ltb j ℓ (omega arith), ne_eqb ℓ 0 z) (out_le g ℓ)

-- a pair of neighbours keeps the places above r above j
pub pair_above : (j a r : ℕ) → j ≤ r → (j ≡ a → suc a ≤ r) → (ℓ : ℕ) → r < ℓ → j < exchange a (suc a) ℓ
pair_above j a r l f ℓ m = go (ℕ_discrete ℓ a) (ℕ_discrete ℓ (suc a)) (ℕ_discrete j a)
  where
    go : Dec (ℓ ≡ a) → Dec (ℓ ≡ suc a) → Dec (j ≡ a) → j < exchange a (suc a) ℓ
    go (yes e) w u = omega (arith, exchange_first a (suc a) ℓ e)
    go (no e) (yes w) (yes u) = absurd (omega (arith, f u))
    go (no e) (yes w) (no u) = omega (arith, exchange_second a (suc a) ℓ w)
    go (no e) (no w) u = omega (arith, exchange_other a (suc a) ℓ e w)

module _ (π : Profile) (v n p : ℕ) (F : Form) (i : ℕ) where
  -- the candidate was judged
  pub skip_tried : ¬ CandidateFits π v n p F i → SkippableAt π v n p F i 0
  skip_tried f c e q =
      let z : c ≡ i = sym (div-one c) ∙ ap (λ (w : ℕ). c / w) (sym (weight_first n)) ∙ e ∙ ap (λ (w : ℕ). i / w) (weight_first n) ∙ div-one i in
      f (subst (CandidateFits π v n p F) z q.fits)

  -- ---- the stack

  -- variable x + 1 has a location over 1 + the greatest of the variables above
  pub skip_label : (x top : ℕ) → x < v → ((y : ℕ) → suc x < y → y ≤ v → stack_of v n i y ≤ top) → suc top < stack_of v n i (suc x) → SkippableAt π v n p F i (n + x)
  skip_label x top l m f c e q =
      let same = block_stack n i c v x e in
      let b : stack_of v n c (suc x) ≤ suc top = labels_in_order π v n p F c q x top l (λ y u w. subst (λ (z : ℕ). z ≤ top) (sym (same y (omega arith))) (m y u w)) in
      absurd (omega (arith, b, same (suc x) (omega arith)))

  -- the formula holds on no heap
  pub skip_hopeless : Hopeless π v n F (stack_of v n i) → SkippableAt π v n p F i n
  unfolding Hopeless
  skip_hopeless none c e q =
      let there = subst (Hopeless π v n F) (sym (block_whole_stack n i c v n (omega arith) e)) none in
      there (heap_of n c) (heap_of_heap n c) q.fits.0

  -- ---- the heap, of which the locations above j are known

  module _ (j : ℕ) (low : j ≤ n) where
    -- the digit at ℓ may not stand there
    pub skip_digit : (ℓ : ℕ) → j < ℓ → (P : ℕ → Type 0) → Digits π v n F (stack_of v n i) ℓ P → ¬ P (heap_of n i ℓ) → SkippableAt π v n p F i j
    unfolding Digits
    skip_digit ℓ l P f none c e q =
        let fits = subst (λ (s : Map). Digits π v n F s ℓ P) (sym (block_whole_stack n i c v j low e)) f in
        none (subst P (block_heap n i c j low e ℓ l) (fits (heap_of n c) (heap_of_heap n c) q.fits.0))

    -- more cells above j point to ℓ than may
    pub skip_crowded : (ℓ k : ℕ) → Caps π v n F (stack_of v n i) ℓ k → most_outgoing j (heap_of n i) ℓ + k < incoming n (above (suc j) (heap_of n i)) ℓ + 1 → SkippableAt π v n p F i j
    unfolding Caps
    skip_crowded ℓ k f m c e q =
        let g = heap_of n c in
        let h = heap_of n i in
        let same : (x : ℕ) → j < x → g x ≡ h x = block_heap n i c j low e in
        let fits = subst (λ (s : Map). Caps π v n F s ℓ k) (sym (block_whole_stack n i c v j low e)) f in
        let a : incoming n (above (suc j) g) ℓ ≤ incoming n g ℓ = incoming_sub ℓ n (above (suc j) g) g (above_sub (suc j) g) in
        let b : incoming n (above (suc j) g) ℓ ≡ incoming n (above (suc j) h) ℓ = incoming_same ℓ n (above (suc j) g) (above (suc j) h) (above_same (suc j) g h same) in
        absurd (omega (arith, m, a, b, out_most_is j n g h ℓ (heap_of_heap n c) same, fits g (heap_of_heap n c) q.fits.0))

    -- the cells above j make a path of more than p links
    pub skip_long : (k : ℕ) → p < k → Path k (above (suc j) (heap_of n i)) → SkippableAt π v n p F i j
    unfolding above
    skip_long k l q c e r =
        r.fits.1 k l (record { at = q.at; link = λ x m. link' (q.at x) (q.at (suc x)) (dec_lt (q.at x) (suc j)) (q.link x m); different = q.different })
      where
        link' : (x y : ℕ) → Dec (x < suc j) → pick (ltb x (suc j)) 0 (heap_of n i x) ≡ suc y → heap_of n c x ≡ suc y
        link' x y (yes u) w = let z : 0 ≡ suc y = sym (ap (λ (b : Bool). pick b 0 (heap_of n i x)) (lt-ltb x (suc j) u)) ∙ w in absurd (omega arith)
        link' x y (no u) w =
            block_heap n i c j low e x (omega arith) ∙ sym (ap (λ (b : Bool). pick b 0 (heap_of n i x)) (le-ltb x (suc j) (omega arith))) ∙ w

    -- ---- two unnamed locations

    module _ (a b : ℕ) (la : 1 ≤ a) (ma : a ≤ n) (lb : 1 ≤ b) (mb : b ≤ n) (ua : ¬ Named v (stack_of v n i) a) (ub : ¬ Named v (stack_of v n i) b) where
      -- exchanged they give a lower heap, by places that come from above j
      pub skip_pair : (r : Lower n (λ x. exchanged_heap a b (heap_of n i) (suc x)) (λ x. heap_of n i (suc x))) → ((ℓ : ℕ) → r.place < ℓ → j < exchange a b ℓ) → j ≤ r.place → SkippableAt π v n p F i j
      unfolding new_heap
      skip_pair r far up c e q =
          let same : (x : ℕ) → j < x → heap_of n c x ≡ heap_of n i x = block_heap n i c j low e in
          let stack = block_whole_stack n i c v j low e in
          let moved : (ℓ : ℕ) → r.place < ℓ → renumbered_digit (exchange a b) (heap_of n c (exchange a b ℓ)) ≡ renumbered_digit (exchange a b) (heap_of n i (exchange a b ℓ)) = λ ℓ m. ap (renumbered_digit (exchange a b)) (same (exchange a b ℓ) (far ℓ m)) in
          heap_not_lower π v n p F c q a b la ma lb mb (λ u. ua (subst (λ (s : Map). Named v s a) stack u)) (λ u. ub (subst (λ (s : Map). Named v s b) stack u))
          (record {
            place = r.place;
            within = r.within;
            less = subst₂ ◌<◌ (sym (moved (suc r.place) (omega arith))) (sym (same (suc r.place) (omega arith))) r.less;
            same = λ x l m. moved (suc x) (omega arith) ∙ r.same x l m ∙ sym (same (suc x) (omega arith));
          })

    -- neighbours, by the numbers that the digits above r are in a base in which they stand: how code compares them
    pub skip_worse : (a : ℕ) → 1 ≤ a → suc a ≤ n → ¬ Named v (stack_of v n i) a → ¬ Named v (stack_of v n i) (suc a) → (r base k : ℕ) → j ≤ r → (j ≡ a → suc a ≤ r) → n ≤ r + k → n + 2 ≤ base → num_of base k (λ x. exchanged_heap a (suc a) (heap_of n i) (suc (r + x))) < num_of base k (λ x. heap_of n i (suc (r + x))) → SkippableAt π v n p F i j
    skip_worse a la ma ua ub r base k jr far nk big less =
        skip_pair a (suc a) la (omega arith) (omega arith) ma ua ub whole
        (λ ℓ m. pair_above j a r jr far ℓ (omega (arith, m)))
        (omega arith)
      where
        g : Map
        g = exchanged_heap a (suc a) (heap_of n i)

        h : Map
        h = heap_of n i

        kh : Heap n h
        kh = heap_of_heap n i

        kg : Heap n g
        kg = new_heap_is n (exchange a (suc a)) (exchange a (suc a)) (exchange_renumbering a (suc a) n la (omega arith) (omega arith) ma) h kh

        part : Lower k (λ x. g (suc (r + x))) (λ x. h (suc (r + x)))
        part = lt_lower base k (λ x. g (suc (r + x))) (λ x. h (suc (r + x))) (λ x. omega (arith, kg.low (suc (r + x)))) (λ x. omega (arith, kh.low (suc (r + x)))) less

        inside : Dec (r + part.place < n) → r + part.place < n
        inside (yes l) = l
        inside (no l) = absurd (omega (arith, part.less, kh.past (suc (r + part.place)) (omega arith)))

        up : (x : ℕ) → r + part.place < x → x < n → g (suc x) ≡ h (suc x)
        up x l m =
            let e : r + (x - r) ≡ x = omega arith in
            subst (λ (y : ℕ). g (suc y) ≡ h (suc y)) e (part.same (x - r) (omega arith) (omega arith))

        whole : Lower n (λ x. g (suc x)) (λ x. h (suc x))
        whole = record { place = r + part.place; within = inside (dec_lt (r + part.place) n); less = part.less; same = up }
