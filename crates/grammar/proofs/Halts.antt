-- The machine over a part of a text, and where it stops. Assumes nothing.
use Rattle.std.specs.Prelude.{◌≡◌, Bool, false, ℕ, suc, ◌+◌, ◌≤◌, ◌<◌}
use Rattle.std.proofs.Math.Path.{refl, sym, ap, subst}
use Rattle.std.proofs.Common.{◌∙◌, arith}
use Rattle.std.proofs.Math.Bool.{true}
use mathlib.Core.List.{List, [], ◌∷◌, ◌++◌, append_assoc}
use Rattle.std.proofs.Math.ListN.{length, length-append, take}
use Rattle.std.proofs.Math.Seq.{take_at}
use Rattle.logic.proofs.Reflect.{false_true, is_and, is_self}
use Rattle.grammar.specs.Phrase.{Phrase}
use Rattle.grammar.specs.Grammar.{Event, Means}
use Rattle.grammar.specs.Places.{Goes, BadAt}
use Rattle.grammar.specs.Machine.{Mode, item, step, out, bad, emits, alive, run}
use Rattle.grammar.specs.Traces.{events_of, phrase_of_trace, whole}
use Rattle.grammar.proofs.Traces.{ends_bad, emits_emits, whole_emits}
use Rattle.grammar.specs.Begun.{Fine}
use Rattle.grammar.proofs.Begun.{fine_step}
use Rattle.grammar.proofs.Back.{means_run, whole_means}
use Rattle.grammar.specs.Finish.{finish}
use Rattle.grammar.proofs.Finish.{can_finish}
use Rattle.grammar.specs.Halts.{after, during, lives, Stuck, no_more_text, no_such_byte, Halt}

pub run_over : (m : Mode) (i : ℕ) (x t : List ℕ) → lives m x ≡ true → run m i (x ++ t) ≡ emits (during m i x) (run (after m x) (i + length x) t)
unfolding run after during lives emits
run_over m i [] t h = let e : i ≡ i + 0 = omega arith in ap (λ (j : ℕ). run m j t) e
run_over m i (b ∷ x) t h =
    let q = (is_and (alive (step m b)) (lives (step m b) x) (is_self (alive (step m b))) (is_self (lives (step m b) x))).to h in
    let e : suc i + length x ≡ i + length (b ∷ x) = omega arith in
    rw q.0 (ap (emits (out m b i)) (run_over (step m b) (suc i) x t q.1 ∙ ap (λ (j : ℕ). emits (during (step m b) (suc i) x) (run (after (step m b) x) j t)) e)
    ∙ emits_emits (out m b i) (during (step m b) (suc i) x) (run (after (step m b) x) (i + length (b ∷ x)) t))

pub fine_after : (m : Mode) (x : List ℕ) → Fine m → Fine (after m x)
unfolding after
fine_after m [] v = v
fine_after m (b ∷ x) v = fine_after (step m b) x (fine_step m b v)

pub alive_after : (m : Mode) (x : List ℕ) → alive m ≡ true → lives m x ≡ true → alive (after m x) ≡ true
unfolding after lives
alive_after m [] a h = a
alive_after m (b ∷ x) a h = let q = (is_and (alive (step m b)) (lives (step m b) x) (is_self (alive (step m b))) (is_self (lives (step m b) x))).to h in alive_after (step m b) x q.0 q.1

pub stuck_run : (m : Mode) (i : ℕ) (r : List ℕ) → Stuck m r → run m i r ≡ bad i
unfolding run
stuck_run m i r (no_more_text h) = h i
stuck_run m i (b ∷ r) (no_such_byte h) = rw h

-- and no other text with the sameBytes next byte
pub stuck_more : (m : Mode) (i b : ℕ) (r u : List ℕ) → Stuck m (b ∷ r) → run m i (b ∷ u) ≡ bad i
unfolding run
stuck_more m i b r u (no_such_byte h) = rw h

pub halt : (m : Mode) (i : ℕ) (s : List ℕ) → whole (run m i s) ≡ false → Halt m s
unfolding run after lives
halt m i [] h = record { done = []; left = []; parts = refl; lived = refl; stuck = no_more_text (ends_bad m i h) }
halt m i (b ∷ s) h = go (alive (step m b)) refl (halt (step m b) (suc i) s)
  where
    go : (c : Bool) → alive (step m b) ≡ c → (whole (run (step m b) (suc i) s) ≡ false → Halt (step m b) s) → Halt m (b ∷ s)
    go false e f = record { done = []; left = b ∷ s; parts = refl; lived = refl; stuck = no_such_byte e }
    go true e f =
        let h' : whole (emits (out m b i) (run (step m b) (suc i) s)) ≡ false = rw e at h in
        let q = f (sym (whole_emits (out m b i) (run (step m b) (suc i) s)) ∙ h') in
        record { done = b ∷ q.done; left = q.left; parts = ap (λ (z : List ℕ). b ∷ z) q.parts; lived = rw e q.lived; stuck = q.stuck }

-- ---- 26's place

module _ (s : List ℕ) (h : Halt (item []) s) where
  abbrev pub stop : ℕ
  stop = length h.done

  front : take stop s ≡ h.done
  front = ap (take stop) h.parts ∙ take_at h.done h.left stop refl

  inside : stop ≤ length s
  inside = omega (arith, ap length h.parts, length-append h.done h.left)

  -- a text that goes on as s does up to its stop
  pub along : (t : List ℕ) → run (item []) 0 (h.done ++ t) ≡ emits (during (item []) 0 h.done) (run (after (item []) h.done) stop t)
  along t = run_over (item []) 0 h.done t h.lived ∙ ap (λ (j : ℕ). emits (during (item []) 0 h.done) (run (after (item []) h.done) j t)) (zero_plus stop)
    where
      zero_plus : (k : ℕ) → 0 + k ≡ k
      zero_plus k = omega arith

  pub halted : run (item []) 0 s ≡ emits (during (item []) 0 h.done) (bad stop)
  halted = ap (run (item []) 0) h.parts ∙ along h.left ∙ ap (emits (during (item []) 0 h.done)) (stuck_run (after (item []) h.done) stop h.left h.stuck)

  not_whole : (t : List ℕ) → run (after (item []) h.done) stop t ≡ bad stop → (F : Phrase) (es : List Event) → ¬ Means (h.done ++ t) F es
  unfolding whole
  not_whole t e F es m =
      false_true (sym (whole_emits (during (item []) 0 h.done) (bad stop)) ∙ ap whole (ap (emits (during (item []) 0 h.done)) (sym e) ∙ sym (along t)) ∙ whole_means (h.done ++ t) F es m)

  pub bad_here : BadAt s stop
  unfolding alive
  bad_here =
      record {
        inside = inside;
        goes =
            let m = after (item []) h.done in
            let u = finish m in
            let e : whole (run (item []) 0 (h.done ++ u)) ≡ true = ap whole (along u) ∙ whole_emits (during (item []) 0 h.done) (run m stop u) ∙ can_finish m (fine_after (item []) h.done tt) (alive_after (item []) h.done refl h.lived) stop in
            subst Goes (sym front) (u, phrase_of_trace (run (item []) 0 (h.done ++ u)), events_of (run (item []) 0 (h.done ++ u)), means_run (h.done ++ u) e);
        stops = λ l g. no_way l h.left h.parts h.stuck g;
        none = λ F es m. not_whole h.left (stuck_run (after (item []) h.done) stop h.left h.stuck) F es (subst (λ (z : List ℕ). Means z F es) h.parts m);
      }
    where
      no_way : stop < length s → (r : List ℕ) → s ≡ h.done ++ r → Stuck (after (item []) h.done) r → ¬ Goes (take (suc stop) s)
      no_way l [] e k g = absurd (omega (arith, ap length e, length-append h.done []))
      no_way l (b ∷ r) e k g =
          let cut : take (suc stop) s ≡ h.done ++ (b ∷ []) = ap (take (suc stop)) (e ∙ sym (append_assoc h.done (b ∷ []) r)) ∙ take_at (h.done ++ (b ∷ [])) r (suc stop) (omega (arith, length-append h.done (b ∷ []))) in
          let whole_text : (take (suc stop) s) ++ g.0 ≡ h.done ++ (b ∷ g.0) = ap (λ (z : List ℕ). z ++ g.0) cut ∙ append_assoc h.done (b ∷ []) g.0 in
          not_whole (b ∷ g.0) (stuck_more (after (item []) h.done) stop b r g.0 k) g.1 g.2 (subst (λ (z : List ℕ). Means z g.1 g.2) whole_text g.3)
