-- What the machine reads, the text means. The text is w. Assumes nothing.
use Rattle.std.specs.Prelude.{◌≡◌, refl, Bool, ◌⊎◌, ℕ, suc, ◌+◌, ◌≤◌, zero, eqb, leb, length, get_or, drop}
use Rattle.std.proofs.Common.{sym, ap, ◌∙◌, arith, leb-true}
use Rattle.std.proofs.Math.Path.{subst}
use Rattle.std.proofs.Math.Bool.{true, false}
use mathlib.Core.List.{List, [], ◌∷◌, ◌++◌, append-nil, append_assoc}
use Rattle.std.proofs.Math.Logic.{inl, inr, ⊎_elim}
use Rattle.logic.proofs.Reflect.{false_true, is_same_bytes}
use Rattle.logic.specs.Tests.{same_bytes}
use Rattle.grammar.specs.Phrase.{Word, joins, denies, relates, Term, nil_term, name_term, Phrase, emp, relate, spelling, lower, letter, sep_nil, Name, bytes}
use Rattle.grammar.specs.Phrase.Join.{and_word, or_word, sep_word, wand_word}
use Rattle.grammar.specs.Phrase.Atom.{equal_word, distinct_word, pto_word, ls_word}
use Rattle.grammar.specs.Grammar.{Event, deepest, blank, Byte, Spelt, Blanks, Edge, Means}
use Rattle.grammar.specs.Grammar.Spelt.{no_more, one_more}
use Rattle.grammar.specs.Grammar.Blanks.{no_blank, a_blank}
use Rattle.grammar.specs.Grammar.Edge.{at_end, at_blank, at_open, at_close}
use Rattle.grammar.specs.Grammar.Stands.{a_nil, a_name}
use Rattle.grammar.specs.Grammar.Reads.{an_emp}
use Rattle.grammar.specs.Machine.{Frame, only_one, first_of, second_of, Spot, start, later, Mode, item, gap, empty, head, word, arg, name, nil, shut, over, words, reserved, viable, past, termed, begun, step, out, read, emits, ending, alive, run, dead, closing, opened}
use Rattle.grammar.specs.Traces.{events_of, phrase_of_trace, whole}
use Rattle.grammar.proofs.Traces.{ends, emitted, whole_emits, whole_alive}
use Rattle.grammar.specs.Steps.{onward}
use Rattle.grammar.proofs.Steps.{looks, ended}
use Rattle.grammar.proofs.Forward.{run_means}
use Rattle.grammar.specs.Begun.{Begun, Fine}
use Rattle.grammar.proofs.Begun.{begun_name, fine_step}
use Rattle.grammar.proofs.Awaits.{Tail, Item, Rest, Arg, Said, Awaits, by_pick, by_only, as_byte, listed}

module _ (w : List ℕ) where
  -- ---- each step back

  back_open : (σ : List Frame) {b i : ℕ} → Byte w b i → eqb b 40 ≡ true → Awaits w (opened σ) (suc i) → Item w σ i
  back_open σ {b} {i} q e h =
      by_only w (leb (suc (length σ)) deepest) (head σ) (suc i)
      (λ l a. listed w σ a.0 i a.1 a.2 (leb-true (suc (length σ)) deepest l) (as_byte w 40 q e) a.3 a.4 a.5) h

  more_item : (σ : List Frame) {b i : ℕ} → Byte w b i → blank b ≡ true → Item w σ (suc i) → Item w σ i
  more_item σ q e i = record { form = i.form; events = i.events; from = i.from; upto = i.upto; skip = a_blank e q i.skip; body = i.body; rest = i.rest }

  more_arg : (p : Spot) (σ : List Frame) {b i : ℕ} → Byte w b i → blank b ≡ true → Arg w p σ (suc i) → Arg w p σ i
  more_arg p σ q e a = (a.0, a.1, a.2, a_blank e q a.3, a.4, a.5)

  emptied : (σ : List Frame) {b i : ℕ} → Byte w b i → eqb b 115 ≡ true → Awaits w (empty 101 (bytes "p.emp") σ) (suc i) → Item w σ i
  emptied σ {b} {i} q e (j, s, g, t) =
      record { form = emp; events = _; from = i; upto = j; skip = no_blank; body = an_emp (one_more (as_byte w 115 q e) s) g; rest = t }

  -- what may follow a formula, by the mode after it
  past_tail : (e : Bool) (F : Phrase) (σ : List Frame) (i : ℕ) → Awaits w (past e F σ) i → Tail w e σ i
  unfolding Tail
  past_tail e F [] i h = h
  past_tail e F (only_one ∷ σ) i h = h
  past_tail e F (second_of c G ∷ σ) i h = h
  past_tail true F (first_of c ∷ σ) i (g, it) = let r = it.rest in (it.form, it.events, it.from, it.upto, r.0, (λ _. g), it.skip, it.body, r.1, r.2, r.3)
  past_tail false F (first_of c ∷ σ) i it = let r = it.rest in (it.form, it.events, it.from, it.upto, r.0, (λ z. false_true z), it.skip, it.body, r.1, r.2, r.3)

  blanks_edge : {i j : ℕ} → Blanks w i j → Edge w j → Edge w i
  blanks_edge no_blank e = e
  blanks_edge (a_blank h q k) e = at_blank h q

  past_edge : (σ : List Frame) (i : ℕ) → Awaits w (past true emp σ) i → Edge w i
  unfolding Tail
  past_edge [] i h = blanks_edge h at_end
  past_edge (only_one ∷ σ) i h = blanks_edge h.1 (at_close h.2)
  past_edge (second_of c G ∷ σ) i h = blanks_edge h.1 (at_close h.2)
  past_edge (first_of c ∷ σ) i h = h.0

  back_item : (σ : List Frame) {b i : ℕ} → Byte w b i → Awaits w (step (item σ) b) (suc i) → Awaits w (item σ) i
  unfolding step
  back_item σ {b} {i} q h =
      by_pick w (blank b) _ _ (suc i) (more_item σ q) (λ _. by_pick w (eqb b 40) _ _ (suc i) (back_open σ q) (λ _. by_only w (eqb b 115) _ (suc i) (emptied σ q))) h

  back_gap : (σ : List Frame) {b i : ℕ} → Byte w b i → Awaits w (step (gap σ) b) (suc i) → Awaits w (gap σ) i
  unfolding step
  back_gap σ {b} {i} q h =
      by_pick w (blank b) _ _ (suc i) (λ e a. (at_blank e q, more_item σ q e a)) (λ _. by_only w (eqb b 40) _ (suc i) (λ e a. (at_open (as_byte w 40 q e), back_open σ q e a))) h

  back_empty : (c : ℕ) (r : List ℕ) (σ : List Frame) {b i : ℕ} → Byte w b i → Awaits w (step (empty c r σ) b) (suc i) → Awaits w (empty c r σ) i
  unfolding step
  back_empty c [] σ {b} {i} q h = by_only w (eqb b c) _ (suc i) (λ e a. (suc i, one_more (as_byte w c q e) no_more, past_edge σ (suc i) a, past_tail true emp σ (suc i) a)) h
  back_empty c (d ∷ r) σ {b} {i} q h = by_only w (eqb b c) _ (suc i) (λ e a. (a.0, one_more (as_byte w c q e) a.1, a.2, a.3)) h

  -- a word that begins with the byte at i
  back_begun : (cs : List Word) (σ : List Frame) {b i : ℕ} → Byte w b i → Awaits w (begun cs b σ) (suc i) → (c : Word) × (j : ℕ) × Spelt w (spelling c) i j × Said w c σ j
  unfolding begun
  back_begun [] σ q h = absurd h
  back_begun (c ∷ cs) σ {b} {i} q h =
      by_pick w (eqb b (get_or (spelling c) 0 0)) _ _ (suc i) (λ e a. (c, a.0, whole c (as_byte w (get_or (spelling c) 0 0) q e) a.1, a.2)) (λ _. back_begun cs σ q) h
    where
      whole : (c : Word) → {i j : ℕ} → Byte w (get_or (spelling c) 0 0) i → Spelt w (drop 1 (spelling c)) (suc i) j → Spelt w (spelling c) i j
      whole (joins and_word) q k = one_more q k
      whole (joins or_word) q k = one_more q k
      whole (joins sep_word) q k = one_more q k
      whole (joins wand_word) q k = one_more q k
      whole denies q k = one_more q k
      whole (relates equal_word) q k = one_more q k
      whole (relates distinct_word) q k = one_more q k
      whole (relates pto_word) q k = one_more q k
      whole (relates ls_word) q k = one_more q k

  back_head : (σ : List Frame) {b i : ℕ} → Byte w b i → Awaits w (step (head σ) b) (suc i) → Awaits w (head σ) i
  unfolding step
  back_head σ {b} {i} q h =
      by_pick w (blank b) _ _ (suc i) (λ e a. (a.0, a.1, a.2, a_blank e q a.3, a.4, a.5))
      (λ _ a. let z = back_begun words σ q a in (z.0, i, z.1, no_blank, z.2, z.3)) h

  back_word : (c : Word) (r : List ℕ) (σ : List Frame) {b i : ℕ} → Byte w b i → Awaits w (step (word c r σ) b) (suc i) → Awaits w (word c r σ) i
  unfolding step
  back_word c (d ∷ r) σ {b} {i} q h = by_only w (eqb b d) _ (suc i) (λ e a. (a.0, one_more (as_byte w d q e) a.1, a.2)) h
  back_word (relates c) [] σ {b} {i} q h = by_only w (blank b) _ (suc i) (λ e a. (i, no_more, (at_blank e q, more_arg (start c) σ q e a))) h
  back_word (joins c) [] σ {b} {i} q h =
      by_pick w (blank b) _ _ (suc i) (λ e a. (i, no_more, (at_blank e q, more_item (first_of c ∷ σ) q e a)))
      (λ _. by_only w (eqb b 40) _ (suc i) (λ e a. (i, no_more, (at_open (as_byte w 40 q e), back_open (first_of c ∷ σ) q e a)))) h
  back_word denies [] σ {b} {i} q h =
      by_pick w (blank b) _ _ (suc i) (λ e a. (i, no_more, (at_blank e q, more_item (only_one ∷ σ) q e a)))
      (λ _. by_only w (eqb b 40) _ (suc i) (λ e a. (i, no_more, (at_open (as_byte w 40 q e), back_open (only_one ∷ σ) q e a)))) h

  back_shut : (F : Phrase) (σ : List Frame) {b i : ℕ} → Byte w b i → Awaits w (step (shut F σ) b) (suc i) → Awaits w (shut F σ) i
  unfolding step
  back_shut F σ {b} {i} q h =
      by_pick w (blank b) _ _ (suc i) (λ e a. (a.0, a_blank e q a.1, a.2, a.3))
      (λ _. by_only w (eqb b 41) _ (suc i) (λ e a. (i, no_blank, as_byte w 41 q e, past_tail false F σ (suc i) a))) h

  back_over : (F : Phrase) {b i : ℕ} → Byte w b i → Awaits w (step (over F) b) (suc i) → Awaits w (over F) i
  unfolding step
  back_over F {b} {i} q h = by_only w (blank b) _ (suc i) (λ e a. a_blank e q a) h

  back_arg : (p : Spot) (σ : List Frame) {b i : ℕ} → Byte w b i → Awaits w (step (arg p σ) b) (suc i) → Awaits w (arg p σ) i
  unfolding step
  back_arg p σ {b} {i} q h =
      by_pick w (blank b) _ _ (suc i) (more_arg p σ q)
      (λ _. by_only w (lower b) _ (suc i) (λ e a. ⊎_elim
      (λ (n : Name (b ∷ a.0)). (name_term (b ∷ a.0), i, a.1, no_blank, a_name n (one_more q a.3), a.4))
      (λ (n : b ∷ a.0 ≡ sep_nil). (nil_term, i, a.1, no_blank, a_nil (subst (λ (z : List ℕ). Spelt w z i a.1) n (one_more q a.3)), a.4)) a.2)) h

  rest_blank : (x : Term) (p : Spot) (σ : List Frame) {b i : ℕ} → Byte w b i → blank b ≡ true → Awaits w (termed x p σ) (suc i) → Rest w p σ i
  rest_blank x (start c) σ {b} {i} q e a = (a.0, a.1, a.2, gapped a.3, a_blank e q a.3, a.4, a.5)
    where
      gapped : {n m : ℕ} → Blanks w n m → n ≤ m
      gapped no_blank = omega arith
      gapped (a_blank h r k) = omega (arith, gapped k)
  rest_blank x (later c y) σ q e a = (a.0, a_blank e q a.1, a.2, a.3)

  rest_close : (x : Term) (p : Spot) (σ : List Frame) {b i : ℕ} → Byte w b i → eqb b 41 ≡ true → Awaits w (closing x p σ) (suc i) → Rest w p σ i
  rest_close x (start c) σ q e a = absurd a
  rest_close x (later c y) σ {b} {i} q e a = (i, no_blank, as_byte w 41 q e, past_tail false (relate c y x) σ (suc i) a)

  back_nil : (r : List ℕ) (p : Spot) (σ : List Frame) {b i : ℕ} → Byte w b i → Awaits w (step (nil r p σ) b) (suc i) → Awaits w (nil r p σ) i
  unfolding step
  back_nil (c ∷ r) p σ {b} {i} q h = by_only w (eqb b c) _ (suc i) (λ e a. (a.0, one_more (as_byte w c q e) a.1, a.2)) h
  back_nil [] p σ {b} {i} q h =
      by_pick w (blank b) _ _ (suc i) (λ e a. (i, no_more, rest_blank nil_term p σ q e a)) (λ _. by_only w (eqb b 41) _ (suc i) (λ e a. (i, no_more, rest_close nil_term p σ q e a))) h

  back_name : (x : List ℕ) (p : Spot) (σ : List Frame) {b i : ℕ} → Begun x → Byte w b i → Awaits w (step (name x p σ) b) (suc i) → Awaits w (name x p σ) i
  unfolding step
  back_name x p σ {b} {i} v q h =
      by_pick w (letter b) _ _ (suc i)
      (λ e. by_only w (viable (x ++ (b ∷ []))) _ (suc i) (λ _ a. (b ∷ a.0, a.1, regroup x b a.0 a.2, one_more q a.3, a.4)))
      (λ _. by_pick w (eqb b 46) _ _ (suc i)
      (λ e. by_only w (same_bytes (spelling (joins sep_word)) x) _ (suc i) (λ f a. (46 ∷ 110 ∷ 105 ∷ 108 ∷ [], a.0, inr (ap (λ (z : List ℕ). z ++ (46 ∷ 110 ∷ 105 ∷ 108 ∷ [])) (sym ((is_same_bytes (spelling (joins sep_word)) x).to f))), one_more (as_byte w 46 q e) a.1, a.2)))
      (λ _. by_pick w (reserved x) _ _ (suc i) (λ _ a. absurd a)
      (λ r. by_pick w (blank b) _ _ (suc i) (λ e a. ([], i, inl (whole x r), no_more, rest_blank (name_term x) p σ q e a))
      (λ _. by_only w (eqb b 41) _ (suc i) (λ e a. ([], i, inl (whole x r), no_more, rest_close (name_term x) p σ q e a)))))) h
    where
      whole : (x' : List ℕ) → reserved x ≡ false → Name (x ++ [])
      whole x' r = subst Name (sym (append-nil x)) (begun_name x v r)

      regroup : (x : List ℕ) (b : ℕ) (y : List ℕ) → Name ((x ++ (b ∷ [])) ++ y) ⊎ ((x ++ (b ∷ [])) ++ y ≡ sep_nil) → Name (x ++ (b ∷ y)) ⊎ (x ++ (b ∷ y) ≡ sep_nil)
      regroup x b y n = subst (λ (z : List ℕ). Name z ⊎ (z ≡ sep_nil)) (append_assoc x (b ∷ []) y) n

-- ---- from the end to the start

module _ (w : List ℕ) where
  at_finish : (m : Mode) → whole (ending m (length w)) ≡ true → Awaits w m (length w)
  unfolding whole
  at_finish m h =
      ⊎_elim (λ q. subst (λ (k : Mode). Awaits w k (length w)) (sym q.1) no_blank) (λ f. false_true (sym (ap whole (f (length w))) ∙ h)) (ends m)

  back_step : (m : Mode) {b i : ℕ} → Fine m → Byte w b i → Awaits w (step m b) (suc i) → Awaits w m i
  unfolding step
  back_step (item σ) v q h = back_item w σ q h
  back_step (gap σ) v q h = back_gap w σ q h
  back_step (empty c r σ) v q h = back_empty w c r σ q h
  back_step (head σ) v q h = back_head w σ q h
  back_step (word c r σ) v q h = back_word w c r σ q h
  back_step (arg p σ) v q h = back_arg w p σ q h
  back_step (name x p σ) v q h = back_name w x p σ v q h
  back_step (nil r p σ) v q h = back_nil w r p σ q h
  back_step (shut F σ) v q h = back_shut w F σ q h
  back_step (over F) v q h = back_over w F q h
  back_step dead v q h = h

  back : (k : ℕ) (m : Mode) (i : ℕ) → i + k ≡ length w → Fine m → whole (onward w m i) ≡ true → Awaits w m i
  back zero m i e v h =
      let f : i ≡ length w = omega arith in
      subst (Awaits w m) (sym f) (at_finish m (ap whole (sym (ended w m)) ∙ subst (λ (j : ℕ). whole (onward w m j) ≡ true) f h))
  back (suc k) m i e v h =
      let b = get_or w i 0 in
      let q : Byte w b i = (omega arith, refl) in
      let a = whole_alive (alive (step m b)) (emits (out m b i) (onward w (step m b) (suc i))) i (ap whole (sym (looks w m q)) ∙ h) in
      back_step m v q (back k (step m b) (suc i) (omega arith) (fine_step m b v) (sym (whole_emits (out m b i) (onward w (step m b) (suc i))) ∙ a.1))

-- a text that is read means the formula that is read
pub means_run : (w : List ℕ) → whole (run (item []) 0 w) ≡ true → Means w (phrase_of_trace (run (item []) 0 w)) (events_of (run (item []) 0 w))
unfolding Tail
means_run w h =
    let i = back w (length w) (item []) 0 (omega arith) tt h in
    let m : Means w i.form i.events = record { from = i.from; upto = i.upto; before = i.skip; body = i.body; after = i.rest } in
    let q = emitted i.events i.form in
    let e = run_means w m in
    subst (λ (F : Phrase). Means w F (events_of (run (item []) 0 w))) (sym (ap phrase_of_trace e ∙ q.1))
    (subst (Means w i.form) (sym (ap events_of e ∙ q.0)) m)

pub whole_means : (w : List ℕ) (F : Phrase) (es : List Event) → Means w F es → whole (run (item []) 0 w) ≡ true
unfolding whole
whole_means w F es m = ap whole (run_means w m) ∙ whole_emits es (read F)
