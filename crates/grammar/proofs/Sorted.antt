-- Events come in the order of their bytes, no two of them at one place. Assumes nothing.
use Rattle.std.specs.Prelude.{◌≡◌, refl, Bool, true, false, List, [], ◌∷◌, ◌++◌, ℕ, suc, ◌+◌, ◌-◌, ◌≤◌, eqb, leb, length}
use Rattle.std.proofs.Common.{sym, subst, arith, length-append}
use Rattle.logic.specs.Tests.{same_bytes}
use Rattle.grammar.specs.Phrase.{Join, Word, joins, denies, relates, Term, Phrase, relate, spelling, lower, letter, bytes, choose}
use Rattle.grammar.specs.Grammar.{Event, named, finished, adds, deepest, blank}
use Rattle.grammar.specs.Machine.{Frame, Spot, start, later, Mode, item, gap, empty, head, word, arg, name, nil, shut, over, words, reserved, viable, past, termed, begun, step, own, shuts, out, bad, emits, alive, run, dead, closing, opened}
use Rattle.grammar.specs.Traces.{events_of}
use Rattle.grammar.proofs.Traces.{ending_none, bad_none, events_emits}
use Rattle.grammar.specs.Begun.{Fine}
use Rattle.grammar.proofs.Begun.{fine_step}
use Rattle.grammar.specs.Sorted.{Sorted, Since, Onward}

since_pick : (c : Bool) (A B : Mode) (lo i : ℕ) → (c ≡ true → Since A lo i) → (c ≡ false → Since B lo i) → Since (choose c A B) lo i
since_pick true A B lo i f g = f refl
since_pick false A B lo i f g = g refl

since_past : (e : Bool) (F : Phrase) (σ : List Frame) (lo i : ℕ) → lo ≤ i → Since (past e F σ) lo i
since_past e F [] lo i l = l
since_past e F (Frame.only_one ∷ σ) lo i l = l
since_past e F (Frame.second_of c G ∷ σ) lo i l = l
since_past true F (Frame.first_of c ∷ σ) lo i l = l
since_past false F (Frame.first_of c ∷ σ) lo i l = l

since_termed : (x : Term) (p : Spot) (σ : List Frame) (lo i : ℕ) → lo ≤ i → Since (termed x p σ) lo i
since_termed x (start c) σ lo i l = l
since_termed x (later c y) σ lo i l = l

since_closing : (x : Term) (p : Spot) (σ : List Frame) (lo i : ℕ) → lo ≤ i → Since (closing x p σ) lo i
since_closing x (start c) σ lo i l = tt
since_closing x (later c y) σ lo i l = since_past false (relate c y x) σ lo i l

since_opened : (σ : List Frame) (lo i : ℕ) → lo ≤ i → Since (opened σ) lo i
since_opened σ lo i l = since_pick (leb (suc (length σ)) deepest) _ _ lo i (λ _. l) (λ _. tt)

since_begun : (cs : List Word) (b : ℕ) (σ : List Frame) (lo i : ℕ) → lo ≤ i → Since (begun cs b σ) lo i
unfolding begun
since_begun [] b σ lo i l = tt
since_begun (c ∷ cs) b σ lo i l = since_pick (eqb b _) _ _ lo i (λ _. l) (λ _. since_begun cs b σ lo i l)

quiet : (m : Mode) (lo i : ℕ) → Since m lo (suc i) → Onward m lo i []
quiet m lo i h = record { low = lo; since = h; sorts = λ fs k. k }

-- an item that is finished
done_here : (m : Mode) (lo i k : ℕ) → lo ≤ i → Since m (suc i) (suc i) → Onward m lo i (finished i k ∷ [])
unfolding Sorted
done_here m lo i k l h = record { low = suc i; since = h; sorts = λ fs s. (l, s) }

-- a name before what else is finished
name_here : (m : Mode) (lo i : ℕ) (x : List ℕ) (es : List Event) → lo + length x ≤ i → 1 ≤ length x → Onward m i i es → Onward m lo i (named x (i - length x) i ∷ es)
unfolding Sorted
name_here m lo i x es l o h = record { low = h.low; since = h.since; sorts = λ fs s. (omega arith, omega arith, h.sorts fs s) }

shut_here : (m : Mode) (p : Spot) (b lo i : ℕ) → lo ≤ i → ((k : ℕ) → k ≤ suc i → Since m k (suc i)) → Onward m lo i (shuts p b i)
shut_here m (start c) b lo i l h = quiet m lo i (h lo (omega arith))
shut_here m (later c y) b lo i l h = go (eqb b 41)
  where
    go : (d : Bool) → Onward m lo i (choose d (finished i (adds (relates c)) ∷ []) [])
    go true = done_here m lo i _ l (h (suc i) (omega arith))
    go false = quiet m lo i (h lo (omega arith))

moves : (m : Mode) (b lo i : ℕ) → Fine m → Since m lo i → Onward (step m b) lo i (out m b i)
unfolding step out
moves (item σ) b lo i v l = quiet _ lo i (since_pick (blank b) _ _ lo (suc i) (λ _. omega arith) (λ _. since_pick (eqb b 40) _ _ lo (suc i) (λ _. since_opened σ lo (suc i) (omega arith)) (λ _. since_pick (eqb b 115) _ _ lo (suc i) (λ _. omega arith) (λ _. tt))))
moves (gap σ) b lo i v l = quiet _ lo i (since_pick (blank b) _ _ lo (suc i) (λ _. omega arith) (λ _. since_pick (eqb b 40) _ _ lo (suc i) (λ _. since_opened σ lo (suc i) (omega arith)) (λ _. tt)))
moves (empty c [] σ) b lo i v l = done_here _ lo i 1 l (since_pick (eqb b c) _ _ (suc i) (suc i) (λ _. since_past true Phrase.emp σ (suc i) (suc i) (omega arith)) (λ _. tt))
moves (empty c (d ∷ r) σ) b lo i v l = quiet _ lo i (since_pick (eqb b c) _ _ lo (suc i) (λ _. omega arith) (λ _. tt))
moves (head σ) b lo i v l = quiet _ lo i (since_pick (blank b) _ _ lo (suc i) (λ _. omega arith) (λ _. since_begun words b σ lo (suc i) (omega arith)))
moves (word c (d ∷ r) σ) b lo i v l = quiet _ lo i (since_pick (eqb b d) _ _ lo (suc i) (λ _. omega arith) (λ _. tt))
moves (word (relates c) [] σ) b lo i v l = quiet _ lo i (since_pick (blank b) _ _ lo (suc i) (λ _. omega arith) (λ _. tt))
moves (word (joins c) [] σ) b lo i v l = quiet _ lo i (since_pick (blank b) _ _ lo (suc i) (λ _. omega arith) (λ _. since_pick (eqb b 40) _ _ lo (suc i) (λ _. since_opened (Frame.first_of c ∷ σ) lo (suc i) (omega arith)) (λ _. tt)))
moves (word denies [] σ) b lo i v l = quiet _ lo i (since_pick (blank b) _ _ lo (suc i) (λ _. omega arith) (λ _. since_pick (eqb b 40) _ _ lo (suc i) (λ _. since_opened (Frame.only_one ∷ σ) lo (suc i) (omega arith)) (λ _. tt)))
moves (arg p σ) b lo i v l = quiet _ lo i (since_pick (blank b) _ _ lo (suc i) (λ _. omega arith) (λ _. since_pick (lower b) _ _ lo (suc i) (λ _. omega arith) (λ _. tt)))
moves (name x p σ) b lo i v l = go (letter b) (eqb b 46)
  where
    ended : Mode
    ended = choose (reserved x) dead (choose (blank b) (termed (Term.name_term x) p σ) (choose (eqb b 41) (closing (Term.name_term x) p σ) dead))

    at_end : (k : ℕ) → k ≤ suc i → Since ended k (suc i)
    at_end k h = since_pick (reserved x) _ _ k (suc i) (λ _. tt) (λ _. since_pick (blank b) _ _ k (suc i) (λ _. since_termed (Term.name_term x) p σ k (suc i) h) (λ _. since_pick (eqb b 41) _ _ k (suc i) (λ _. since_closing (Term.name_term x) p σ k (suc i) h) (λ _. tt)))

    go : (c d : Bool) → Onward (choose c (choose (viable (x ++ (b ∷ []))) (name (x ++ (b ∷ [])) p σ) dead) (choose d (choose (same_bytes (spelling (joins Join.sep_word)) x) (nil (bytes "nil") p σ) dead) ended)) lo i (choose c [] (choose d [] (named x (i - length x) i ∷ shuts p b i)))
    go true d = quiet _ lo i (since_pick (viable (x ++ (b ∷ []))) _ _ lo (suc i) (λ _. omega (arith, length-append x (b ∷ []))) (λ _. tt))
    go false true = quiet _ lo i (since_pick (same_bytes _ x) _ _ lo (suc i) (λ _. omega arith) (λ _. tt))
    go false false = name_here ended lo i x (shuts p b i) l v.some (shut_here ended p b i i (omega arith) at_end)
moves (nil (c ∷ r) p σ) b lo i v l = quiet _ lo i (since_pick (eqb b c) _ _ lo (suc i) (λ _. omega arith) (λ _. tt))
moves (nil [] p σ) b lo i v l = shut_here _ p b lo i l (λ k h. since_pick (blank b) _ _ k (suc i) (λ _. since_termed Term.nil_term p σ k (suc i) h) (λ _. since_pick (eqb b 41) _ _ k (suc i) (λ _. since_closing Term.nil_term p σ k (suc i) h) (λ _. tt)))
moves (shut F σ) b lo i v l = go (eqb b 41)
  where
    go : (c : Bool) → Onward (choose (blank b) (shut F σ) (choose c (past false F σ) dead)) lo i (choose c (finished i (own F) ∷ []) [])
    go true = done_here _ lo i (own F) l (since_pick (blank b) _ _ (suc i) (suc i) (λ _. omega arith) (λ _. since_past false F σ (suc i) (suc i) (omega arith)))
    go false = quiet _ lo i (since_pick (blank b) _ _ lo (suc i) (λ _. omega arith) (λ _. tt))
moves (over F) b lo i v l = quiet _ lo i (since_pick (blank b) _ _ lo (suc i) (λ _. omega arith) (λ _. tt))
moves dead b lo i v l = quiet _ lo i tt

none_sorted : (lo : ℕ) → Sorted lo []
unfolding Sorted
none_sorted lo = tt

pub sorted_run : (m : Mode) (i : ℕ) (s : List ℕ) (lo : ℕ) → Fine m → Since m lo i → Sorted lo (events_of (run m i s))
unfolding run
sorted_run m i [] lo v l = subst (Sorted lo) (sym (ending_none m i)) (none_sorted lo)
sorted_run m i (b ∷ s) lo v l =
    let q = moves m b lo i v l in
    go (alive (step m b)) (subst (Sorted lo) (sym (events_emits (out m b i) (run (step m b) (suc i) s))) (q.sorts (events_of (run (step m b) (suc i) s)) (sorted_run (step m b) (suc i) s q.low (fine_step m b v) q.since)))
  where
    go : (c : Bool) → Sorted lo (events_of (emits (out m b i) (run (step m b) (suc i) s))) → Sorted lo (events_of (choose c (emits (out m b i) (run (step m b) (suc i) s)) (bad i)))
    go true h = h
    go false h = subst (Sorted lo) (sym (bad_none i)) (none_sorted lo)
