-- The machine from one byte to the next. The text is w. Assumes nothing.
use Rattle.std.specs.Prelude.{◌≡◌, Bool, true, false, List, [], ◌∷◌, ℕ, suc}
use Rattle.std.proofs.Math.Path.{refl, ap}
use Rattle.std.proofs.Common.{sym, ◌∙◌, arith, drop_of_length-le, drop-cons}
use Rattle.std.proofs.Math.ListN.{length, drop}
use Rattle.grammar.specs.Phrase.{Term, Phrase, choose}
use Rattle.grammar.specs.Grammar.{blank, Byte, Blanks}
use Rattle.grammar.specs.Grammar.Blanks.{no_blank, a_blank}
use Rattle.grammar.specs.Machine.{Frame, only_one, first_of, second_of, Spot, start, later, Mode, item, head, arg, shut, over, past, termed, step, out, bad, emits, ending, alive, run}
use Rattle.grammar.proofs.Spellings.{other}
use Rattle.grammar.specs.Steps.{onward}

pub past_alive : (e : Bool) (F : Phrase) (σ : List Frame) → alive (past e F σ) ≡ true
unfolding alive
past_alive e F [] = refl
past_alive e F (only_one ∷ σ) = refl
past_alive true F (first_of c ∷ σ) = refl
past_alive false F (first_of c ∷ σ) = refl
past_alive e F (second_of c G ∷ σ) = refl

pub termed_alive : (x : Term) (p : Spot) (σ : List Frame) → alive (termed x p σ) ≡ true
unfolding alive
termed_alive x (start c) σ = refl
termed_alive x (later c y) σ = refl

module _ (w : List ℕ) where
  -- byte i is looked at
  pub looks : (m : Mode) {b i : ℕ} → Byte w b i → onward w m i ≡ choose (alive (step m b)) (emits (out m b i) (onward w (step m b) (suc i))) (bad i)
  unfolding run
  looks m {b} {i} q = ap (run m i) (drop-cons w i 0 q.0 ∙ ap (λ (c : ℕ). c ∷ drop (suc i) w) q.1)

  pub goes : (m n : Mode) {b i : ℕ} → Byte w b i → step m b ≡ n → alive n ≡ true → onward w m i ≡ emits (out m b i) (onward w n (suc i))
  goes m n {b} {i} q e a = looks m q ∙ rw (e, a)

  pub goes_still : (m n : Mode) {b i : ℕ} → Byte w b i → step m b ≡ n → alive n ≡ true → out m b i ≡ [] → onward w m i ≡ onward w n (suc i)
  unfolding emits
  goes_still m n {b} {i} q e a o = goes m n q e a ∙ rw o

  -- two modes that do the sameBytes with byte i
  pub alike : (m n : Mode) {b i : ℕ} → Byte w b i → step m b ≡ step n b → out m b i ≡ out n b i → onward w m i ≡ onward w n i
  alike m n {b} {i} q e o = looks m q ∙ (rw (e, o) (sym (looks n q)))

  pub ended : (m : Mode) → onward w m (length w) ≡ ending m (length w)
  unfolding run
  ended m = ap (run m (length w)) (drop_of_length-le w {i = length w} (omega arith))

  -- blanks are skipped
  pub skips : (m : Mode) → ((b : ℕ) → blank b ≡ true → step m b ≡ m) → ((b i : ℕ) → blank b ≡ true → out m b i ≡ []) → alive m ≡ true
      → {i j : ℕ} → Blanks w i j → onward w m i ≡ onward w m j
  skips m f g a no_blank = refl
  skips m f g a (a_blank {b = b} {i = i} h q k) = goes_still m m q (f b h) a (g b i h) ∙ skips m f g a k

  pub skip_item : (σ : List Frame) {i j : ℕ} → Blanks w i j → onward w (item σ) i ≡ onward w (item σ) j
  unfolding step out alive
  skip_item σ k = skips (item σ) (λ b h. rw h) (λ b i h. refl) refl k

  pub skip_head : (σ : List Frame) {i j : ℕ} → Blanks w i j → onward w (head σ) i ≡ onward w (head σ) j
  unfolding step out alive
  skip_head σ k = skips (head σ) (λ b h. rw h) (λ b i h. refl) refl k

  pub skip_arg : (p : Spot) (σ : List Frame) {i j : ℕ} → Blanks w i j → onward w (arg p σ) i ≡ onward w (arg p σ) j
  unfolding step out alive
  skip_arg p σ k = skips (arg p σ) (λ b h. rw h) (λ b i h. refl) refl k

  pub skip_shut : (F : Phrase) (σ : List Frame) {i j : ℕ} → Blanks w i j → onward w (shut F σ) i ≡ onward w (shut F σ) j
  unfolding step out alive
  skip_shut F σ k = skips (shut F σ) (λ b h. rw h) (λ b i h. rw (other blank b 41 h refl)) refl k

  pub skip_over : (F : Phrase) {i j : ℕ} → Blanks w i j → onward w (over F) i ≡ onward w (over F) j
  unfolding step out alive
  skip_over F k = skips (over F) (λ b h. rw h) (λ b i h. refl) refl k
