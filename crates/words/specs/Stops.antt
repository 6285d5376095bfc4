-- Where the machine stops with 26. Assumes nothing.
use Rattle.std.specs.Prelude.{◌≡◌, false, ℕ, ◌≤◌, ◌<◌, eqb, length, get_or}
use Rattle.std.proofs.Math.Path.{refl}
use Rattle.std.proofs.Common.{sym, ◌∙◌, subst, ⊎_elim, eq-or-lt_of_le, eq-eqb, ne_eqb}
use mathlib.Core.List.{List, [], ◌∷◌}
use Rattle.grammar.specs.Steps.{onward}
use Rattle.grammar.proofs.Steps.{looks, goes_still, ended}
use Rattle.grammar.specs.Phrase.{Word}
use Rattle.grammar.specs.Grammar.{Byte}
use Rattle.grammar.specs.Machine.{Frame, Spot, Mode, empty, word, nil, step, out, bad, alive, ending}
use Rattle.words.specs.Words.{Misses, here, later}

module _ (s : List ℕ) where
  -- no byte that may stand at i carries the mode on, and it is not the end of a formula
  pub stops : (m : Mode) (i : ℕ) → i ≤ length s → ((b : ℕ) → Byte s b i → alive (step m b) ≡ false) → ((j : ℕ) → ending m j ≡ bad j) → onward s m i ≡ bad i
  stops m i l f e = ⊎_elim at_end inside (eq-or-lt_of_le l)
    where
      at_end : i ≡ length s → onward s m i ≡ bad i
      at_end q = subst (λ (j : ℕ). onward s m j ≡ bad j) (sym q) (ended s m ∙ e (length s))

      inside : i < length s → onward s m i ≡ bad i
      inside h = looks s m (h, refl) ∙ rw (f (get_or s i 0) (h, refl))

  -- a byte that does not stand at i is not the one that does
  pub other_byte : (b c i : ℕ) → ¬ Byte s c i → Byte s b i → eqb b c ≡ false
  other_byte b c i f q = ne_eqb b c (λ e. f (q.0, q.1 ∙ e))

  pub word_misses : (c : Word) (σ : List Frame) {x : List ℕ} {i p : ℕ} → Misses s x i p → p ≤ length s → onward s (word c x σ) i ≡ bad p
  unfolding step out alive ending
  word_misses c σ (here {c = b} {i = i} {x = x} f) l = stops (word c (b ∷ x) σ) i l (λ a q. rw (other_byte a b i f q)) (λ j. refl)
  word_misses c σ (later {c = b} {x = x} q k) l = goes_still s (word c (b ∷ x) σ) (word c x σ) q (rw (eq-eqb b b refl)) refl refl ∙ word_misses c σ k l

  pub nil_misses : (t : Spot) (σ : List Frame) {x : List ℕ} {i p : ℕ} → Misses s x i p → p ≤ length s → onward s (nil x t σ) i ≡ bad p
  unfolding step out alive ending
  nil_misses t σ (here {c = b} {i = i} {x = x} f) l = stops (nil (b ∷ x) t σ) i l (λ a q. rw (other_byte a b i f q)) (λ j. refl)
  nil_misses t σ (later {c = b} {x = x} q k) l = goes_still s (nil (b ∷ x) t σ) (nil x t σ) q (rw (eq-eqb b b refl)) refl refl ∙ nil_misses t σ k l

  pub emp_misses : (σ : List Frame) (c : ℕ) (x : List ℕ) {i p : ℕ} → Misses s (c ∷ x) i p → p ≤ length s → onward s (empty c x σ) i ≡ bad p
  unfolding step out alive ending
  emp_misses σ c [] {i = i} {p = p} (later q k) l = elim k [ ]
  emp_misses σ c [] (here {i = i} f) l = stops (empty c [] σ) i l (λ a q. rw (other_byte a c i f q)) (λ j. refl)
  emp_misses σ c (d ∷ x) (here {i = i} f) l = stops (empty c (d ∷ x) σ) i l (λ a q. rw (other_byte a c i f q)) (λ j. refl)
  emp_misses σ c (d ∷ x) (later q k) l = goes_still s (empty c (d ∷ x) σ) (empty d x σ) q (rw (eq-eqb c c refl)) refl refl ∙ emp_misses σ d x k l
