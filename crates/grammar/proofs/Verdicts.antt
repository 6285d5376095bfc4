-- What the machine says of a text is what the definitions say: the formula that it means, or its lowest complaint; and there is
-- only one. Assumes nothing.
use Rattle.std.specs.Prelude.{◌≡◌, refl, ◌⊎◌, ℕ, suc, ◌+◌, ◌≤◌, ◌<◌, length}
use Rattle.std.proofs.Common.{sym, ap, ◌∙◌, inl, inr, eq-or-lt_of_le, arith}
use Rattle.std.proofs.Math.Path.{subst}
use Rattle.std.proofs.Math.Bool.{true}
use mathlib.Core.List.{List, [], ◌∷◌}
use Rattle.std.proofs.Math.Logic.{⊎_elim}
use Rattle.logic.specs.Book.{most}
use Rattle.logic.specs.Numbers.{many_nodes, many_names, bad_text}
use Rattle.grammar.specs.Phrase.{Phrase}
use Rattle.grammar.specs.Grammar.{Event, named, finished, Means}
use Rattle.grammar.specs.Places.{BadAt, Finished, note, PassesAt, NameOverAt, Complaint, bad_at, passes_at, name_over_at, Refused}
use Rattle.grammar.specs.Places.PassesAt.{passing, past_item, past_name}
use Rattle.grammar.specs.Places.NameOverAt.{one_over, after_name, after_item}
use Rattle.grammar.specs.Machine.{item, read, bad, emits}
use Rattle.grammar.specs.Outcome.{refused, outcome, Outcome, taken}
use Rattle.grammar.specs.Traces.{events_of, phrase_of_trace, whole}
use Rattle.grammar.proofs.Traces.{whole_is}
use Rattle.grammar.proofs.Back.{means_run}
use Rattle.grammar.specs.Halts.{during, Halt}
use Rattle.grammar.proofs.Halts.{stop, halted, bad_here}
use Rattle.grammar.specs.PlaceLaws.{Each}
use Rattle.grammar.specs.PlaceLaws.{trace}
use Rattle.grammar.proofs.PlaceLaws.{one_place, each_more, during_early, either, halt_events, finished_events, finished_trace}
use Rattle.grammar.specs.Sorted.{Sorted}
use Rattle.grammar.proofs.Sorted.{sorted_run}
use Rattle.grammar.specs.LowestLaws.{Clean, Excess, nodes_first, names_first}
use Rattle.grammar.proofs.LowestLaws.{sift}
use Rattle.grammar.specs.Verdicts.{Only, Settled}

-- an event that passes a limit is one of the events
passes_in : (P : ℕ → Type 0) (k : ℕ) (es : List Event) (q : ℕ) → Each P es → PassesAt k es q → P q
unfolding Each
passes_in P k [] q h x = elim x [ ]
passes_in P k (finished p m ∷ es) q h (passing a b) = h.0
passes_in P k (finished p m ∷ es) q h (past_item r) = passes_in P (k + m) es q h.1 r
passes_in P k (named x i j ∷ es) q h (past_name r) = passes_in P k es q h.1 r

over_in : (K lo : ℕ) (ns : List (List ℕ)) (es : List Event) (q : ℕ) → Each (λ j. j < K) es → Sorted lo es → NameOverAt most ns es q → q < K
unfolding Each Sorted
over_in K lo ns [] q h s x = elim x [ ]
over_in K lo ns (named x i j ∷ es) q h s (one_over a b) = omega (arith, h.0, s.1)
over_in K lo ns (named x i j ∷ es) q h s (after_name r) = over_in K j (note ns x) es q h.1 s.2 r
over_in K lo ns (finished p m ∷ es) q h s (after_item r) = over_in K (suc p) ns es q h.1 s.1 r

module _ (s : List ℕ) where
  es : List Event
  es = events_of (trace s)

  events : (fs : List Event) → Finished s fs → fs ≡ events_of (trace s)
  events fs f = finished_events s fs f

  sorted : Sorted 0 (events_of (trace s))
  sorted = sorted_run (item []) 0 s 0 tt (omega arith)

  same_or_lower : (m q r : ℕ) → q ≤ r → ((m ≡ m) × (r ≡ q)) ⊎ (q < r)
  same_or_lower m q r l = ⊎_elim (λ (e : q ≡ r). inl (refl, sym e)) (λ (e : q < r). inr e) (eq-or-lt_of_le l)

  -- a limit is the first, with 26's place, if any, behind it
  excess_only : ((K : ℕ) → BadAt s K → Each (λ j. j < K) (events_of (trace s))) → (m q : ℕ) → Excess [] 0 (events_of (trace s)) m q → Only s m q
  excess_only f m q (nodes_first z a b c) =
      record { complaint = passes_at (events_of (trace s)) z (finished_trace s) a; others = λ m' q' h. go m' q' h }
    where
      go : (m' q' : ℕ) → Complaint s m' q' → ((m' ≡ many_nodes) × (q' ≡ z)) ⊎ (z < q')
      go m' q' (bad_at K h) = inr (passes_in (λ j. j < K) 0 (events_of (trace s)) z (f K h) a)
      go m' q' (passes_at fs r g h) = same_or_lower many_nodes z q' (b q' (subst (λ (x : List Event). PassesAt 0 x q') (events fs g) h))
      go m' q' (name_over_at fs r g h) = inr (c q' (subst (λ (x : List Event). NameOverAt most [] x q') (events fs g) h))
  excess_only f m q (names_first z a b c) =
      record { complaint = name_over_at (events_of (trace s)) z (finished_trace s) a; others = λ m' q' h. go m' q' h }
    where
      go : (m' q' : ℕ) → Complaint s m' q' → ((m' ≡ many_names) × (q' ≡ z)) ⊎ (z < q')
      go m' q' (bad_at K h) = inr (over_in K 0 [] (events_of (trace s)) z (f K h) sorted a)
      go m' q' (passes_at fs r g h) = inr (c q' (subst (λ (x : List Event). PassesAt 0 x q') (events fs g) h))
      go m' q' (name_over_at fs r g h) = same_or_lower many_names z q' (b q' (subst (λ (x : List Event). NameOverAt most [] x q') (events fs g) h))

  clean_only : (K : ℕ) → BadAt s K → Clean [] 0 (events_of (trace s)) → Only s bad_text K
  clean_only K k c = record { complaint = bad_at K k; others = λ m' q' h. go m' q' h }
    where
      go : (m' q' : ℕ) → Complaint s m' q' → ((m' ≡ bad_text) × (q' ≡ K)) ⊎ (K < q')
      go m' q' (bad_at J h) = inl (refl, one_place s J K h k)
      go m' q' (passes_at fs r g h) = absurd (c.0 q' (subst (λ (x : List Event). PassesAt 0 x q') (events fs g) h))
      go m' q' (name_over_at fs r g h) = absurd (c.1 q' (subst (λ (x : List Event). NameOverAt most [] x q') (events fs g) h))

  clean_none : (F : Phrase) (fs : List Event) → Means s F fs → Clean [] 0 (events_of (trace s)) → (m q : ℕ) → ¬ Complaint s m q
  clean_none F fs m c m' q' (bad_at J h) = h.none F fs m
  clean_none F fs m c m' q' (passes_at gs r g h) = c.0 q' (subst (λ (x : List Event). PassesAt 0 x q') (events gs g) h)
  clean_none F fs m c m' q' (name_over_at gs r g h) = c.1 q' (subst (λ (x : List Event). NameOverAt most [] x q') (events gs g) h)

  -- the machine's word on a text
  pub settled : Settled s (outcome [] 0 (trace s))
  unfolding outcome
  settled = ⊎_elim read_through halts (either s)
    where
      read_through : whole (trace s) ≡ true → Settled s (outcome [] 0 (trace s))
      read_through e =
          let F = phrase_of_trace (trace s) in
          let m = means_run s e in
          let is = whole_is (trace s) e in
          ⊎_elim
          (λ q. subst (Settled s) (sym (ap (outcome [] 0) is ∙ q.2)) (excess_only (λ K h. absurd (h.none F (events_of (trace s)) m)) q.0 q.1 q.3))
          (λ q. subst (Settled s) (sym (ap (outcome [] 0) is ∙ q.1))
          (record { events = events_of (trace s); means = m; names = refl; nodes = refl; few_names = q.2; few_nodes = q.3; none = clean_none F (events_of (trace s)) m q.0 }))
          (sift (events_of (trace s)) [] 0 0 (read F) sorted (omega arith) (omega arith))

      halts : Halt (item []) s → Settled s (outcome [] 0 (trace s))
      halts h =
          let K = stop s h in
          let is : trace s ≡ emits (events_of (trace s)) (bad K) = halted s h ∙ ap (λ (x : List Event). emits x (bad K)) (sym (halt_events s h)) in
          let early : Each (λ j. j < K) (events_of (trace s)) = subst (Each (λ j. j < K)) (sym (halt_events s h)) (each_more (λ j. j < 0 + length h.done) (λ j. j < K) (λ j l. omega arith) (during (item []) 0 h.done) (during_early (item []) 0 h.done)) in
          ⊎_elim
          (λ q. subst (Settled s) (sym (ap (outcome [] 0) is ∙ q.2)) (excess_only (λ J b. subst (λ (x : ℕ). Each (λ j. j < x) (events_of (trace s))) (one_place s K J (bad_here s h) b) early) q.0 q.1 q.3))
          (λ q. subst (Settled s) (sym (ap (outcome [] 0) is ∙ q.1)) (clean_only K (bad_here s h) q.0))
          (sift (events_of (trace s)) [] 0 0 (bad K) sorted (omega arith) (omega arith))

-- ---- one refusal, or none

pub only_refused : (s : List ℕ) (m q : ℕ) → Only s m q → Refused s m q
only_refused s m q o = record { complaint = o.complaint; lowest = λ m' q' h. ⊎_elim (λ e. omega (arith, e.1)) (λ l. omega (arith, l)) (o.others m' q' h) }

pub refused_only : (s : List ℕ) (m q m' q' : ℕ) → Only s m q → Refused s m' q' → (m' ≡ m) × (q' ≡ q)
refused_only s m q m' q' o r = ⊎_elim (λ e. e) (λ (l : q < q'). absurd (omega (arith, r.lowest m q o.complaint))) (o.others m' q' r.complaint)

pub refused_single : (s : List ℕ) (m q m' q' : ℕ) → Refused s m q → Refused s m' q' → (m ≡ m') × (q ≡ q')
refused_single s m q m' q' a b = go (outcome [] 0 (trace s)) (settled s)
  where
    go : (o : Outcome) → Settled s o → (m ≡ m') × (q ≡ q')
    go (refused k p) h = let x = refused_only s k p m q h a in let y = refused_only s k p m' q' h b in (x.0 ∙ sym y.0, x.1 ∙ sym y.1)
    go (taken ns k F) h = absurd (h.none m q a.complaint)
