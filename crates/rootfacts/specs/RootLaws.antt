-- Laws of the table of facts: how it is filled, and which blocks it lets a hunt pass over. Assumes nothing.
use Rattle.std.specs.Prelude.{◌≡◌, false, List, ℕ, suc, ◌+◌, ◌%◌, ◌/◌, ◌^◌, ◌<◌, ◌≤◌, eqb, length, get_or, set, replicate}
use Rattle.std.proofs.Common.{sym, subst, ◌∙◌, ap, zero-le, ne_of_lt, arith, get_or-set_same, get_or-set_other, below_more}
use Rattle.std.proofs.lemmas.List.{get_or-replicate}
use Rattle.logic.specs.declared.Profile.{Profile}
use Rattle.logic.specs.Heap.{Map, Stack, Heap}
use Rattle.logic.specs.Formula.{Form}
use Rattle.logic.specs.Tests.{in_part}
use Rattle.logic.specs.Table.{tree}
use Rattle.logic.proofs.Reflect.{false_true}
use Rattle.logic.specs.Candidates.{number_of}
use Rattle.cells.specs.Cells.{most, cells}
use Rattle.cells.specs.Bits.{digit_is}
use Rattle.skips.specs.Counts.{incoming, above}
use Rattle.skips.specs.Facts.{Digits, Caps, Hopeless}
use Rattle.skips.proofs.DigitRules.{hopeless, digits_hopeless}
use Rattle.skips.proofs.BoundRules.{caps_hopeless}
use Rattle.skips.specs.Blocks.{most_outgoing}
use Rattle.skips.specs.BlockFacts.{SkippableAt}
use Rattle.skips.proofs.HereLaws.{hopeless_here, digit_here, crowded_here}
use Rattle.facts.specs.declared.fact.Fact.{Fact}
use Rattle.facts.specs.Known.{In}
use Rattle.facts.specs.KnownLaws.{in_none, no_digit_hopeless}
use Rattle.rootfacts.specs.NodeFacts.{KnownAt}
use Rattle.rootfacts.specs.RootFacts.{entries, set_size, digits_at, cap_at, EntryAt, Facts}

-- a bit of a set, as code works it out
pub bit_is : (m d : ℕ) → eqb (m / 2 ^ d % 2) 1 ≡ in_part m (suc d)
unfolding in_part
bit_is m d = ap (λ (x : ℕ). eqb x 1) (digit_is 2 m d)

-- ---- filling the table

module _ (n : ℕ) (F : Form) (s : Map) where
  -- an entry elsewhere with the same number
  entry_same : (t u : List ℕ) (ℓ : ℕ) → get_or u ℓ 0 ≡ get_or t ℓ 0 → EntryAt n F s t ℓ → EntryAt n F s u ℓ
  entry_same t u ℓ e q =
      record {
        digits = λ π v. subst (λ (x : ℕ). Digits π v n F s ℓ (In (x % set_size))) (sym e) (q.digits π v);
        caps = λ π v. subst (λ (x : ℕ). Caps π v n F s ℓ (x / set_size)) (sym e) (q.caps π v);
        low = subst (λ (x : ℕ). x / set_size ≤ 255) (sym e) q.low;
      }

  -- no heap fits: every entry is right
  hopeless_entry : (t : List ℕ) (ℓ : ℕ) → ((π : Profile) (v : ℕ) → Hopeless π v n F s) → cap_at t ℓ ≤ 255 → EntryAt n F s t ℓ
  hopeless_entry t ℓ none l =
      record {
        digits = λ π v. digits_hopeless π v n s ℓ F (In (digits_at t ℓ)) (none π v);
        caps = λ π v. caps_hopeless π v n s ℓ F (cap_at t ℓ) (none π v);
        low = l;
      }

  -- one entry more
  entries_more : (t : List ℕ) (l x : ℕ) → ((ℓ : ℕ) → ℓ < l → EntryAt n F s t ℓ) → EntryAt n F s (set t l x) l → (ℓ : ℕ) → ℓ < l + 1 → EntryAt n F s (set t l x) ℓ
  entries_more t l x all here =
      below_more (EntryAt n F s (set t l x)) l (λ ℓ m. entry_same t (set t l x) ℓ (get_or-set_other t l ℓ x 0 (λ e. ne_of_lt m e)) (all ℓ m)) here

module _ (f : List ℕ) (k n s l : ℕ) (a : Fact) (q : KnownAt f k n s l a) where
  entry_stored : (t : List ℕ) (x : ℕ) → l < length t → (x % set_size ≡ a.digits) × (x / set_size ≡ a.cap) → EntryAt n (tree f k) (cells s) (set t l x) l
  entry_stored t x m e =
      let z : get_or (set t l x) l 0 ≡ x = get_or-set_same t l x 0 m in
      record {
        digits = λ π v. subst (λ (y : ℕ). Digits π v n (tree f k) (cells s) l (In y)) (sym (ap (λ (y : ℕ). y % set_size) z ∙ e.0)) (q.known π v).digits;
        caps = λ π v. subst (Caps π v n (tree f k) (cells s) l) (sym (ap (λ (y : ℕ). y / set_size) z ∙ e.1)) (q.known π v).caps;
        low = subst (λ (y : ℕ). y ≤ 255) (sym (ap (λ (y : ℕ). y / set_size) z ∙ e.1)) a.cap_fits;
      }

  pub stored_more : (t : List ℕ) (x : ℕ) → l < length t → (x % set_size ≡ a.digits) × (x / set_size ≡ a.cap) → ((ℓ : ℕ) → ℓ < l → EntryAt n (tree f k) (cells s) t ℓ) → (ℓ : ℕ) → ℓ < l + 1 → EntryAt n (tree f k) (cells s) (set t l x) ℓ
  stored_more t x m e all = entries_more n (tree f k) (cells s) t l x all (entry_stored t x m e)

  pub hopeless_facts : a.digits ≡ 0 → n ≤ most → Facts n (tree f k) (cells s) (replicate entries 0)
  hopeless_facts e few ℓ m =
      hopeless_entry n (tree f k) (cells s) (replicate entries 0) ℓ (λ π v. no_digit_hopeless π v n (tree f k) (cells s) l a e (q.known π v))
      (subst (λ (x : ℕ). x / set_size ≤ 255) (sym (get_or-replicate entries ℓ 0 0 (omega arith))) (omega arith))

-- ---- which blocks go: the candidate has stack s and heap h

module _ (π : Profile) (v n p : ℕ) (F : Form) (s h : Map) (ks : Stack v n s) (kh : Heap n h) (t : List ℕ) (q : Facts n F s t) where
  pub hopeless_goes : digits_at t 0 ≡ 0 → SkippableAt π v n p F (number_of v n s h) n
  hopeless_goes e =
      hopeless_here π v n p F s h ks kh
      (hopeless π v n s 0 F (In (digits_at t 0)) ((q 0 zero-le).digits π v) (λ d _ w. in_none d (subst (λ (x : ℕ). In x d) e w)))

  module _ (j : ℕ) (low : j ≤ n) (ℓ : ℕ) (m : ℓ ≤ n) where
    -- the digit at ℓ may not stand there
    pub digit_goes : j < ℓ → in_part (digits_at t ℓ) (suc (h ℓ)) ≡ false → SkippableAt π v n p F (number_of v n s h) j
    digit_goes l e = digit_here π v n p F s h ks kh j low ℓ l (In (digits_at t ℓ)) ((q ℓ m).digits π v) (λ w. false_true (sym e ∙ w))

    -- more cells above j point to ℓ than may
    pub crowded_goes : most_outgoing j h ℓ + cap_at t ℓ < incoming n (above (suc j) h) ℓ + 1 → SkippableAt π v n p F (number_of v n s h) j
    crowded_goes l = crowded_here π v n p F s h ks kh j low ℓ (cap_at t ℓ) ((q ℓ m).caps π v) l
