-- A text that means a formula within the limits is not complained of. Assumes nothing.
use Rattle.std.specs.Prelude.{◌≡◌, false, List, [], ◌∷◌, ℕ, ◌+◌, ◌<◌, ◌≤◌, length}
use Rattle.std.proofs.Common.{sym, ap, ◌∙◌, subst, arith, length-append}
use Rattle.logic.specs.Book.{most, most_nodes}
use Rattle.grammar.specs.Phrase.{Phrase, name_term}
use Rattle.grammar.specs.Grammar.{Event, named, finished, Means}
use Rattle.grammar.specs.Places.{Finished, all_of_it, known, note, PassesAt, NameOverAt, Complaint, bad_at, passes_at, name_over_at}
use Rattle.grammar.specs.Places.PassesAt.{passing, past_item, past_name}
use Rattle.grammar.specs.Places.NameOverAt.{one_over, after_name, after_item}
use Rattle.grammar.specs.Outcome.{nodes_from, names_from}
use Rattle.grammar.proofs.PlaceLaws.{finished_events}
use Rattle.grammar.specs.Listing.{size_of}
use Rattle.grammar.specs.Meaning.{names_of, number_of, meaning}
use Rattle.grammar.proofs.MeaningLaws.{nodes_reads, names_reads}
use Rattle.grammar.proofs.NumberLaws.{more_term}
use Rattle.grammar.specs.Import.{Good}

nodes_grow : (k : ℕ) (es : List Event) → k ≤ nodes_from k es
unfolding nodes_from
nodes_grow k [] = omega arith
nodes_grow k (named x i j ∷ es) = nodes_grow k es
nodes_grow k (finished q m ∷ es) = omega (arith, nodes_grow (k + m) es)

passes_many : (k : ℕ) (es : List Event) (q : ℕ) → PassesAt k es q → most_nodes < nodes_from k es
unfolding nodes_from
passes_many k [] q x = elim x [ ]
passes_many k (finished p m ∷ es) q (passing a b) = omega (arith, nodes_grow (k + m) es)
passes_many k (finished p m ∷ es) q (past_item r) = passes_many (k + m) es q r
passes_many k (named x i j ∷ es) q (past_name r) = passes_many k es q r

note_grows : (ns : List (List ℕ)) (x : List ℕ) → length ns ≤ length (note ns x)
note_grows ns x = let m = more_term ns (name_term x) in omega (arith, ap length m.1, length-append ns m.0)

names_grow : (ns : List (List ℕ)) (es : List Event) → length ns ≤ length (names_from ns es)
unfolding names_from
names_grow ns [] = omega arith
names_grow ns (named x i j ∷ es) = omega (arith, note_grows ns x, names_grow (note ns x) es)
names_grow ns (finished q m ∷ es) = names_grow ns es

note_new : (ns : List (List ℕ)) (x : List ℕ) → known ns x ≡ false → length (note ns x) ≡ length ns + 1
note_new ns x e = rw e (length-append ns (x ∷ []))

over_many : (ns : List (List ℕ)) (es : List Event) (q : ℕ) → NameOverAt most ns es q → most < length (names_from ns es)
unfolding names_from
over_many ns [] q x = elim x [ ]
over_many ns (named x i j ∷ es) q (one_over a b) = omega (arith, b, note_new ns x a, names_grow (note ns x) es)
over_many ns (named x i j ∷ es) q (after_name r) = over_many (note ns x) es q r
over_many ns (finished p m ∷ es) q (after_item r) = over_many ns es q r

pub within_limits : (s : List ℕ) (F : Phrase) (es : List Event) → Means s F es → size_of (meaning F) ≤ most_nodes → length (names_of F) ≤ most → Good s F
within_limits s F es m few_nodes few_names = record { events = es; means = m; none = none }
  where
    only : (fs : List Event) → Finished s fs → fs ≡ es
    only fs f = finished_events s fs f ∙ sym (finished_events s es (all_of_it F m))

    none : (k q : ℕ) → ¬ Complaint s k q
    none k q (bad_at i h) = h.none F es m
    none k q (passes_at fs r f h) =
        let l = passes_many 0 es q (subst (λ (x : List Event). PassesAt 0 x q) (only fs f) h) in
        omega (arith, l, few_nodes, nodes_reads s (number_of (names_of F)) 0 m.body)
    none k q (name_over_at fs r f h) =
        let l = over_many [] es q (subst (λ (x : List Event). NameOverAt most [] x q) (only fs f) h) in
        omega (arith, l, few_names, ap length (names_reads s [] m.body))
