-- 26 has one place, and what is finished before it is one list, whatever text goes on from there. Assumes nothing.
use Rattle.std.specs.Prelude.{◌≡◌, refl, Bool, true, false, List, [], ◌∷◌, ◌++◌, ◌⊎◌, ℕ, suc, ◌+◌, ◌≤◌, ◌<◌, eqb, ltb, length, drop, take}
use Rattle.std.proofs.Common.{sym, ap, ap₂, ◌∙◌, subst, append-nil, append_assoc, inl, inr, ⊎_elim, arith, take-append-drop, take_at, take-take, lt-ltb, le-ltb}
use Rattle.std.proofs.Math.Decide.{dec_lt}
use Rattle.grammar.specs.Phrase.{letter, choose}
use Rattle.grammar.specs.Grammar.{Event, Means}
use Rattle.grammar.specs.Places.{Goes, BadAt, finished_by, before, Finished, all_of_it, up_to_26}
use Rattle.grammar.specs.Machine.{Spot, start, later, Mode, item, gap, empty, head, word, arg, name, nil, shut, over, step, shuts, out, bad, emits, alive, run, dead}
use Rattle.grammar.specs.Traces.{events_of, phrase_of_trace, whole}
use Rattle.grammar.proofs.Traces.{ending_none, bad_none, emitted, events_emits}
use Rattle.grammar.proofs.Forward.{run_means}
use Rattle.grammar.proofs.Back.{means_run}
use Rattle.grammar.specs.Halts.{after, during, Halt}
use Rattle.grammar.proofs.Halts.{halt, stop, along, halted, bad_here}
use Rattle.grammar.specs.PlaceLaws.{Each}
use Rattle.grammar.specs.PlaceLaws.{trace}

-- ---- one place for 26

goes_less : (p q : List ℕ) → Goes (p ++ q) → Goes p
goes_less p q g = (q ++ g.0, g.1, g.2, subst (λ (z : List ℕ). Means z g.1 g.2) (append_assoc p q g.0) g.3)

goes_front : (s : List ℕ) (k j : ℕ) → k ≤ j → Goes (take j s) → Goes (take k s)
goes_front s k j l g =
    subst Goes (take-take k j s l) (goes_less (take k (take j s)) (drop k (take j s)) (subst Goes (sym (take-append-drop k (take j s))) g))

not_lower : (s : List ℕ) (k j : ℕ) → BadAt s k → BadAt s j → ¬ (k < j)
not_lower s k j a b l = a.stops (omega (arith, b.inside)) (goes_front s (suc k) j l b.goes)

pub one_place : (s : List ℕ) (k j : ℕ) → BadAt s k → BadAt s j → k ≡ j
one_place s k j a b = go (dec_lt k j) (dec_lt j k)
  where
    go : Dec (k < j) → Dec (j < k) → k ≡ j
    go (yes l) d = absurd (not_lower s k j a b l)
    go (no l) (yes m) = absurd (not_lower s j k b a m)
    go (no l) (no m) = omega arith

each_append : (P : ℕ → Type 0) (xs ys : List Event) → Each P xs → Each P ys → Each P (xs ++ ys)
unfolding Each
each_append P [] ys a b = b
each_append P (x ∷ xs) ys a b = (a.0, each_append P xs ys a.1 b)

pub each_more : (P Q : ℕ → Type 0) → ((j : ℕ) → P j → Q j) → (es : List Event) → Each P es → Each Q es
unfolding Each
each_more P Q f [] a = tt
each_more P Q f (e ∷ es) a = (f (finished_by e) a.0, each_more P Q f es a.1)

each_pick : (P : ℕ → Type 0) (c : Bool) (xs ys : List Event) → Each P xs → Each P ys → Each P (choose c xs ys)
each_pick P true xs ys a b = a
each_pick P false xs ys a b = b

shuts_here : (p : Spot) (b i : ℕ) → Each (λ j. j ≡ i) (shuts p b i)
unfolding Each
shuts_here (start c) b i = tt
shuts_here (later c y) b i = each_pick (λ j. j ≡ i) (eqb b 41) _ _ (refl, tt) tt

out_here : (m : Mode) (b i : ℕ) → Each (λ j. j ≡ i) (out m b i)
unfolding Each out
out_here (item σ) b i = tt
out_here (gap σ) b i = tt
out_here (empty c [] σ) b i = (refl, tt)
out_here (empty c (d ∷ r) σ) b i = tt
out_here (head σ) b i = tt
out_here (word w r σ) b i = tt
out_here (arg p σ) b i = tt
out_here (name x p σ) b i = each_pick (λ j. j ≡ i) (letter b) _ _ tt (each_pick (λ j. j ≡ i) (eqb b 46) _ _ tt (refl, shuts_here p b i))
out_here (nil (c ∷ r) p σ) b i = tt
out_here (nil [] p σ) b i = shuts_here p b i
out_here (shut F σ) b i = each_pick (λ j. j ≡ i) (eqb b 41) _ _ (refl, tt) tt
out_here (over F) b i = tt
out_here dead b i = tt

pub during_early : (m : Mode) (i : ℕ) (x : List ℕ) → Each (λ j. j < i + length x) (during m i x)
unfolding during Each
during_early m i [] = tt
during_early m i (b ∷ x) =
    each_append (λ j. j < i + length (b ∷ x)) (out m b i) (during (step m b) (suc i) x)
    (each_more (λ j. j ≡ i) (λ j. j < i + length (b ∷ x)) (λ j e. omega arith) (out m b i) (out_here m b i))
    (each_more (λ j. j < suc i + length x) (λ j. j < i + length (b ∷ x)) (λ j l. omega arith) (during (step m b) (suc i) x) (during_early (step m b) (suc i) x))

each_none : (P : ℕ → Type 0) → Each P []
unfolding Each
each_none P = tt

run_late : (m : Mode) (i : ℕ) (s : List ℕ) → Each (λ j. i ≤ j) (events_of (run m i s))
unfolding run
run_late m i [] = subst (Each (λ j. i ≤ j)) (sym (ending_none m i)) (each_none (λ j. i ≤ j))
run_late m i (b ∷ s) = go (alive (step m b)) (run_late (step m b) (suc i) s)
  where
    go : (c : Bool) → Each (λ j. suc i ≤ j) (events_of (run (step m b) (suc i) s)) → Each (λ j. i ≤ j) (events_of (choose c (emits (out m b i) (run (step m b) (suc i) s)) (bad i)))
    go true h =
        subst (Each (λ j. i ≤ j)) (sym (events_emits (out m b i) (run (step m b) (suc i) s)))
        (each_append (λ j. i ≤ j) (out m b i) (events_of (run (step m b) (suc i) s))
        (each_more (λ j. j ≡ i) (λ j. i ≤ j) (λ j e. omega arith) (out m b i) (out_here m b i))
        (each_more (λ j. suc i ≤ j) (λ j. i ≤ j) (λ j l. omega arith) (events_of (run (step m b) (suc i) s)) h))
    go false h = subst (Each (λ j. i ≤ j)) (sym (bad_none i)) (each_none (λ j. i ≤ j))

before_all : (k : ℕ) (es : List Event) → Each (λ j. j < k) es → before k es ≡ es
unfolding before Each
before_all k [] h = refl
before_all k (e ∷ es) h = rw (lt-ltb (finished_by e) k h.0) (ap (λ (z : List Event). e ∷ z) (before_all k es h.1))

before_none : (k : ℕ) (es : List Event) → Each (λ j. k ≤ j) es → before k es ≡ []
unfolding before Each
before_none k [] h = refl
before_none k (e ∷ es) h = rw (le-ltb (finished_by e) k h.0) (before_none k es h.1)

before_append : (k : ℕ) (xs ys : List Event) → before k (xs ++ ys) ≡ before k xs ++ before k ys
unfolding before
before_append k [] ys = refl
before_append k (x ∷ xs) ys = go (ltb (finished_by x) k) (before_append k xs ys)
  where
    go : (c : Bool) → before k (xs ++ ys) ≡ before k xs ++ before k ys → choose c (x ∷ before k (xs ++ ys)) (before k (xs ++ ys)) ≡ choose c (x ∷ before k xs) (before k xs) ++ before k ys
    go true h = ap (λ (z : List Event). x ∷ z) h
    go false h = h

-- ---- the events of a text are those of its trace

module _ (s : List ℕ) where
  -- a text is read, or halts
  pub either : (whole (trace s) ≡ true) ⊎ Halt (item []) s
  either = go (whole (trace s)) refl
    where
      go : (c : Bool) → whole (trace s) ≡ c → (whole (trace s) ≡ true) ⊎ Halt (item []) s
      go true e = inl e
      go false e = inr (halt (item []) 0 s e)

  pub halt_events : (h : Halt (item []) s) → events_of (trace s) ≡ during (item []) 0 h.done
  halt_events h = ap events_of (halted s h) ∙ events_emits (during (item []) 0 h.done) (bad (stop s h)) ∙ ap (λ (z : List Event). during (item []) 0 h.done ++ z) (bad_none (stop s h)) ∙ append-nil (during (item []) 0 h.done)

  pub finished_events : (es : List Event) → Finished s es → es ≡ events_of (trace s)
  finished_events es (all_of_it F m) = sym (emitted es F).0 ∙ ap events_of (sym (run_means s m))
  finished_events es (up_to_26 k u F fs b m e) =
      ⊎_elim (λ (r : whole (trace s) ≡ true). absurd (b.none (phrase_of_trace (trace s)) (events_of (trace s)) (means_run s r)))
      (λ (h : Halt (item []) s).
      let d = h.done in
      let ds = during (item []) 0 d in
      let same_k : k ≡ stop s h = one_place s k (stop s h) b (bad_here s h) in
      let cut : take k s ≡ d = ap₂ take same_k h.parts ∙ take_at d h.left (stop s h) refl in
      let text : run (item []) 0 (take k s ++ u) ≡ emits ds (run (after (item []) d) (stop s h) u) = ap (λ (z : List ℕ). run (item []) 0 (z ++ u)) cut ∙ along s h u in
      let all : fs ≡ ds ++ events_of (run (after (item []) d) (stop s h) u) = sym (emitted fs F).0 ∙ ap events_of (sym (run_means (take k s ++ u) m)) ∙ ap events_of text ∙ events_emits ds (run (after (item []) d) (stop s h) u) in
      let early : before k ds ≡ ds = before_all k ds (each_more (λ j. j < 0 + length d) (λ j. j < k) (λ j l. omega (arith, same_k)) ds (during_early (item []) 0 d)) in
      let late : before k (events_of (run (after (item []) d) (stop s h) u)) ≡ [] = before_none k (events_of (run (after (item []) d) (stop s h) u)) (each_more (λ j. stop s h ≤ j) (λ j. k ≤ j) (λ j l. omega (arith, same_k)) (events_of (run (after (item []) d) (stop s h) u)) (run_late (after (item []) d) (stop s h) u)) in
      e ∙ ap (before k) all ∙ before_append k ds (events_of (run (after (item []) d) (stop s h) u)) ∙ ap₂ (λ (x y : List Event). x ++ y) early late ∙ append-nil ds ∙ sym (halt_events h)) either

  pub finished_trace : Finished s (events_of (trace s))
  finished_trace =
      ⊎_elim (λ (r : whole (trace s) ≡ true). all_of_it (phrase_of_trace (trace s)) (means_run s r))
      (λ (h : Halt (item []) s).
      let b = bad_here s h in
      let g = b.goes in
      let d = h.done in
      let ds = during (item []) 0 d in
      let k = stop s h in
      let u = g.0 in
      let cut : take k s ≡ d = ap (take k) h.parts ∙ take_at d h.left k refl in
      let all : g.2 ≡ ds ++ events_of (run (after (item []) d) k u) = sym (emitted g.2 g.1).0 ∙ ap events_of (sym (run_means (take k s ++ u) g.3)) ∙ ap events_of (ap (λ (z : List ℕ). run (item []) 0 (z ++ u)) cut ∙ along s h u) ∙ events_emits ds (run (after (item []) d) k u) in
      let early : before k ds ≡ ds = before_all k ds (each_more (λ j. j < 0 + length d) (λ j. j < k) (λ j l. omega arith) ds (during_early (item []) 0 d)) in
      let late : before k (events_of (run (after (item []) d) k u)) ≡ [] = before_none k (events_of (run (after (item []) d) k u)) (run_late (after (item []) d) k u) in
      up_to_26 k u g.1 g.2 b g.3
      (halt_events h ∙ sym (ap (before k) all ∙ before_append k ds (events_of (run (after (item []) d) k u)) ∙ ap₂ (λ (x y : List Event). x ++ y) early late ∙ append-nil ds))) either
