-- A text that a bench with lower bounds refused neither with 12 nor with 28 has its old answer, and its old book. Assumes nothing.
use Rattle.std.specs.Prelude.{◌≡◌, Bool, true, List, [], ◌∷◌, ◌++◌, ◌↔◌, ℕ, suc, ◌≤◌, length}
use Rattle.std.proofs.Math.Path.{refl, ap}
use Rattle.std.proofs.Common.{sym, subst, subst₂, ◌∙◌, arith}
use Rattle.std.proofs.Math.Bool.{false}
use Rattle.std.proofs.Math.Logic.{inr, ⊎_elim}
use Rattle.std.proofs.Math.Decide.{ℕ_discrete}
use Rattle.std.proofs.Math.ListN.{drop}
use Rattle.logic.specs.declared.Answer.{Answer}
use Rattle.logic.specs.Numbers.{bounds, many_names}
use Rattle.logic.specs.Checks.{Answers}
use Rattle.logic.proofs.Reflect.{false_true}
use Rattle.logic.specs.Book.{most}
use Rattle.grammar.specs.Phrase.{Phrase}
use Rattle.grammar.specs.Grammar.{Event, named, finished}
use Rattle.grammar.specs.Places.{known, note, NameOverAt, ComplaintWithin, Complaint, bad_at, passes_at, name_over_at, RefusedWithin, Refused}
use Rattle.grammar.specs.Places.NameOverAt.{one_over, after_name, after_item}
use Rattle.grammar.specs.Machine.{item}
use Rattle.grammar.proofs.PlaceLaws.{finished_events}
use Rattle.grammar.specs.Sorted.{Sorted}
use Rattle.grammar.proofs.Sorted.{sorted_run}
use Rattle.grammar.proofs.LowestLaws.{over_low, note_room}
use Rattle.grammar.specs.Meaning.{book_for}
use Rattle.grammar.specs.Import.{GoodWithin, Good, ReadingWithin, Reading, complains, no_room, reads, ImportsWithin, Imports}
use Rattle.grammar.proofs.ImportLaws.{reads_zero, imports_single}
use Rattle.grammar.proofs.Forward.{one_meaning}
use Rattle.raised.specs.OldAnswers.{former_most}

module _ (k : ℕ) (l : k ≤ most) where
  abbrev Sooner : List (List ℕ) → List Event → ℕ → Type 0
  Sooner ns es q = (i : ℕ) × NameOverAt k ns es i × (i ≤ q)

  -- a name that is one too many here comes after one that was too many there, or is that one
  sooner : (lo : ℕ) (ns : List (List ℕ)) (es : List Event) (q : ℕ) → Sorted lo es → length ns ≤ k → NameOverAt most ns es q → Sooner ns es q
  unfolding Sorted
  sooner lo ns [] q h f x = elim x [ ]
  sooner lo ns (named x i j ∷ es) q h f (one_over a b) = (i, one_over a (omega arith), omega arith)
  sooner lo ns (named x i j ∷ es) q h f (after_name r) = go (known ns x) refl (ℕ_discrete (length ns) k) (λ y. sooner j (note ns x) es q h.2 y r)
    where
      more : (known ns x ≡ false → ¬ (length ns ≡ k)) → (length (note ns x) ≤ k → Sooner (note ns x) es q) → Sooner ns (named x i j ∷ es) q
      more g y = let z = y (note_room k ns x f g) in (z.0, after_name z.1, z.2)

      go : (c : Bool) → known ns x ≡ c → Dec (length ns ≡ k) → (length (note ns x) ≤ k → Sooner (note ns x) es q) → Sooner ns (named x i j ∷ es) q
      go true e d y = more (λ z. false_true (sym z ∙ e)) y
      go false e (yes z) y = (i, one_over e z, omega (arith, h.1, over_low most j (note ns x) es q h.2 r))
      go false e (no z) y = more (λ _. z) y
  sooner lo ns (finished p m ∷ es) q h f (after_item r) = let z = sooner (suc p) ns es q h.1 f r in (z.0, after_item z.1, z.2)

  module _ (s : List ℕ) where
    kept : (m q : ℕ) → ComplaintWithin k s m q → ¬ (m ≡ many_names) → Complaint s m q
    kept m q (bad_at i h) f = bad_at i h
    kept m q (passes_at es r g h) f = passes_at es r g h
    kept m q (name_over_at es r g h) f = absurd (f refl)

    -- whatever is complained of here, something was complained of there, no later
    was : (m q : ℕ) → Complaint s m q → (m' : ℕ) × (q' : ℕ) × ComplaintWithin k s m' q' × (q' ≤ q)
    was m q (bad_at i h) = (m, q, bad_at i h, omega arith)
    was m q (passes_at es r g h) = (m, q, passes_at es r g h, omega arith)
    was m q (name_over_at es r g h) =
        let sorted = subst (Sorted 0) (sym (finished_events s es g)) (sorted_run (item []) 0 s 0 tt (omega arith)) in
        let z = sooner 0 [] es q sorted (omega arith) h in
        (many_names, z.0, name_over_at es z.0 g z.1, z.2)

    still_refused : (m q : ℕ) → RefusedWithin k s m q → ¬ (m ≡ many_names) → Refused s m q
    still_refused m q r f =
        record {
          complaint = kept m q r.complaint f;
          lowest = λ m' q' c. let z = was m' q' c in omega (arith, r.lowest z.0 z.1 z.2, z.3);
        }

    still_good : (F : Phrase) → GoodWithin k s F → Good s F
    still_good F g = record { events = g.events; means = g.means; none = λ m q c. let z = was m q c in g.none z.0 z.1 z.2 }

    module _ (n p : ℕ) (o : List ℕ) (a : Answer) (f : ¬ (a.number ≡ many_names)) where
      still_reading : ReadingWithin k s n p o a → Reading s n p o a
      still_reading (complains m q r e) = complains m q (still_refused m q r (λ z. f (ap (λ (x : Answer). x.number) e ∙ z))) e
      still_reading (no_room F g h e) = no_room F (still_good F g) h e
      still_reading (reads F g h e) = reads F (still_good F g) h e

      -- "12 .. begins at 9", "a ninth name is refused"; no other answer changes
      still_imported : (o' : List ℕ) → ImportsWithin k s n p o a o' → ¬ (a.number ≡ bounds) → Imports s n p o a o'
      unfolding Answers
      still_imported o' i g =
          record {
            answer = inr ((omega (arith, there.0.0), omega (arith, there.0.1)), still_reading there.1);
            wrote = λ z F h.
                let G = reads_zero k s n p o a there.1 z in
                i.wrote z G.0 G.1 ∙ ap (λ (X : Phrase). book_for n p X ++ drop (length (book_for n p X)) o) (one_meaning s G.0 F G.1.events h.events G.1.means h.means).0;
            kept = i.kept;
          }
        where
          there : ((n ≤ k) × (p ≤ k)) × ReadingWithin k s n p o a
          there = ⊎_elim (λ u. absurd (g (ap (λ (x : Answer). x.number) u.1))) (λ u. u) i.answer

-- the answer and the output are the old ones, and no others
pub texts_read_before : (s : List ℕ) (n p : ℕ) (o : List ℕ) (a : Answer) (o' : List ℕ) → ImportsWithin former_most s n p o a o'
    → ¬ (a.number ≡ bounds) → ¬ (a.number ≡ many_names) → (b : Answer) (x : List ℕ) → Imports s n p o b x ↔ ((b ≡ a) × (x ≡ o'))
texts_read_before s n p o a o' i f g b x =
    let q = still_imported former_most (omega arith) s n p o a g o' i f in
    (λ r. imports_single s n p o b a x o' r q, λ e. subst₂ (λ (c : Answer) (y : List ℕ). Imports s n p o c y) (sym e.0) (sym e.1) q)
