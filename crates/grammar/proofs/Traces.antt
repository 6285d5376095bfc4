-- What a text comes to, with what is finished on the way. Assumes nothing.
use Rattle.std.specs.Prelude.{◌≡◌, refl, Bool, true, false, List, [], ◌∷◌, ◌++◌, ◌⊎◌, ℕ}
use Rattle.std.proofs.Common.{sym, ap, ◌∙◌, inl, inr, ⊎_elim}
use Rattle.logic.proofs.Reflect.{false_true}
use Rattle.grammar.specs.Phrase.{Phrase, choose}
use Rattle.grammar.specs.Grammar.{Event}
use Rattle.grammar.specs.Machine.{Mode, item, gap, empty, head, word, arg, name, nil, shut, over, dead, ending, Trace, read, bad, event, emits}
use Rattle.grammar.specs.Traces.{events_of, phrase_of_trace, whole}

pub emits_emits : (es fs : List Event) (t : Trace) → emits es (emits fs t) ≡ emits (es ++ fs) t
unfolding emits
emits_emits [] fs t = refl
emits_emits (e ∷ es) fs t = ap (event e) (emits_emits es fs t)

pub emitted : (es : List Event) (F : Phrase) → (events_of (emits es (read F)) ≡ es) × (phrase_of_trace (emits es (read F)) ≡ F)
unfolding emits events_of phrase_of_trace
emitted [] F = (refl, refl)
emitted (e ∷ es) F = let q = emitted es F in (ap (λ (z : List Event). e ∷ z) q.0, q.1)

pub events_emits : (es : List Event) (t : Trace) → events_of (emits es t) ≡ es ++ events_of t
unfolding events_of emits
events_emits [] t = refl
events_emits (e ∷ es) t = ap (λ (z : List Event). e ∷ z) (events_emits es t)

pub whole_emits : (es : List Event) (t : Trace) → whole (emits es t) ≡ whole t
unfolding whole emits
whole_emits [] t = refl
whole_emits (e ∷ es) t = whole_emits es t

pub whole_is : (t : Trace) → whole t ≡ true → t ≡ emits (events_of t) (read (phrase_of_trace t))
unfolding whole emits events_of phrase_of_trace
whole_is (read F) h = refl
whole_is (bad i) h = false_true h
whole_is (event e t) h = ap (event e) (whole_is t h)

-- what is whole was alive
pub whole_alive : (c : Bool) (t : Trace) (i : ℕ) → whole (choose c t (bad i)) ≡ true → (c ≡ true) × (whole t ≡ true)
unfolding whole
whole_alive true t i h = (refl, h)
whole_alive false t i h = false_true h

-- a text may end in one mode alone
pub ends : (m : Mode) → ((F : Phrase) × (m ≡ over F)) ⊎ ((i : ℕ) → ending m i ≡ bad i)
unfolding ending
ends (over F) = inl (F, refl)
ends (item σ) = inr (λ i. refl)
ends (gap σ) = inr (λ i. refl)
ends (empty c r σ) = inr (λ i. refl)
ends (head σ) = inr (λ i. refl)
ends (word c r σ) = inr (λ i. refl)
ends (arg p σ) = inr (λ i. refl)
ends (name x p σ) = inr (λ i. refl)
ends (nil r p σ) = inr (λ i. refl)
ends (shut F σ) = inr (λ i. refl)
ends dead = inr (λ i. refl)

pub ending_none : (m : Mode) (i : ℕ) → events_of (ending m i) ≡ []
unfolding ending events_of
ending_none m i = ⊎_elim (λ q. ap (λ (k : Mode). events_of (ending k i)) q.1) (λ f. ap events_of (f i)) (ends m)

pub ends_bad : (m : Mode) (j : ℕ) → whole (ending m j) ≡ false → (i : ℕ) → ending m i ≡ bad i
unfolding ending whole
ends_bad m j h i = ⊎_elim (λ q. false_true (sym h ∙ ap (λ (k : Mode). whole (ending k j)) q.1)) (λ f. f i) (ends m)

pub bad_none : (i : ℕ) → events_of (bad i) ≡ []
unfolding events_of
bad_none i = refl
