-- The names and the nodes of a text's events are those of its formula. Assumes nothing.
use Rattle.std.specs.Prelude.{◌≡◌, refl, ℕ, ◌+◌, ◌-◌}
use Rattle.std.proofs.Common.{ap, ◌∙◌, arith}
use mathlib.Core.List.{List, [], ◌∷◌, ◌++◌}
use Rattle.grammar.specs.Outcome.{nodes_from, names_from}
use Rattle.logic.specs.Formula.{Form}
use Rattle.grammar.specs.Phrase.{Join, joins, denies, relates, Term, nil_term, name_term, Phrase, Atom}
use Rattle.grammar.specs.Phrase.Join.{and_word, or_word, sep_word, wand_word}
use Rattle.grammar.specs.Phrase.Atom.{equal_word, distinct_word, pto_word, ls_word}
use Rattle.grammar.specs.Grammar.{Event, named, finished, adds, seen, Reads}
use Rattle.grammar.specs.Grammar.Reads.{an_emp, a_join, a_denial, a_relation}
use Rattle.grammar.specs.Places.{note}
use Rattle.grammar.specs.Listing.{size_of}
use Rattle.grammar.specs.Meaning.{note_term, collect, join_form, atom_form, form_of}

-- ---- nodes

nodes_append : (k : ℕ) (es fs : List Event) → nodes_from k (es ++ fs) ≡ nodes_from (nodes_from k es) fs
unfolding nodes_from
nodes_append k [] fs = refl
nodes_append k (named x i j ∷ es) fs = nodes_append k es fs
nodes_append k (finished q m ∷ es) fs = nodes_append (k + m) es fs

nodes_seen : (k : ℕ) (x : Term) (i j : ℕ) → nodes_from k (seen x i j) ≡ k
unfolding nodes_from
nodes_seen k nil_term i j = refl
nodes_seen k (name_term x) i j = refl

nodes_last : (k q m : ℕ) → nodes_from k (finished q m ∷ []) ≡ k + m
unfolding nodes_from
nodes_last k q m = refl

pub join_size : (c : Join) (a b : Form) → size_of (join_form c a b) ≡ size_of a + size_of b + adds (joins c)
unfolding size_of
join_size and_word a b = refl
join_size or_word a b = refl
join_size sep_word a b = refl
join_size wand_word a b = omega arith

pub atom_size : (c : Atom) (x y : ℕ) → size_of (atom_form c x y) ≡ adds (relates c)
unfolding size_of
atom_size equal_word x y = refl
atom_size distinct_word x y = refl
atom_size pto_word x y = refl
atom_size ls_word x y = refl

module _ (w : List ℕ) (ν : Term → ℕ) where
  pub nodes_reads : (k : ℕ) {d i j : ℕ} {F : Phrase} {es : List Event} → Reads w d F i j es → nodes_from k es ≡ k + size_of (form_of ν F)
  unfolding form_of size_of
  nodes_reads k (an_emp {j = j} s e) = nodes_last k (j - 1) 1
  nodes_reads k (a_join {j = j} {c = c} {F = F} {G = G} {es = es} {fs = fs} q r b t) =
      let last = finished (j - 1) (adds (joins c)) ∷ [] in
      nodes_append k es (fs ++ last) ∙ nodes_append (nodes_from k es) fs last ∙ nodes_last (nodes_from (nodes_from k es) fs) (j - 1) (adds (joins c))
      ∙ omega (arith, nodes_reads k r, nodes_reads (nodes_from k es) t, join_size c (form_of ν F) (form_of ν G))
  nodes_reads k (a_denial {j = j} {F = F} {es = es} q r) =
      nodes_append k es (finished (j - 1) (adds denies) ∷ []) ∙ nodes_last (nodes_from k es) (j - 1) (adds denies) ∙ omega (arith, nodes_reads k r)
  nodes_reads k (a_relation {k = a} {l = l} {j = j} {m = m} {n = n} {c = c} {x = x} {y = y} q s g b t) =
      let last = finished (j - 1) (adds (relates c)) ∷ [] in
      nodes_append k (seen x a m) (seen y n l ++ last) ∙ nodes_append (nodes_from k (seen x a m)) (seen y n l) last ∙ nodes_last (nodes_from (nodes_from k (seen x a m)) (seen y n l)) (j - 1) (adds (relates c))
      ∙ omega (arith, nodes_seen k x a m, nodes_seen (nodes_from k (seen x a m)) y n l, atom_size c (ν x) (ν y))

-- ---- names

names_append : (ns : List (List ℕ)) (es fs : List Event) → names_from ns (es ++ fs) ≡ names_from (names_from ns es) fs
unfolding names_from
names_append ns [] fs = refl
names_append ns (named x i j ∷ es) fs = names_append (note ns x) es fs
names_append ns (finished q m ∷ es) fs = names_append ns es fs

names_seen : (ns : List (List ℕ)) (x : Term) (i j : ℕ) → names_from ns (seen x i j) ≡ note_term ns x
unfolding names_from
names_seen ns nil_term i j = refl
names_seen ns (name_term x) i j = refl

names_last : (ns : List (List ℕ)) (q m : ℕ) → names_from ns (finished q m ∷ []) ≡ ns
unfolding names_from
names_last ns q m = refl

pub names_reads : (w : List ℕ) (ns : List (List ℕ)) {d i j : ℕ} {F : Phrase} {es : List Event} → Reads w d F i j es → names_from ns es ≡ collect ns F
unfolding collect
names_reads w ns (an_emp {j = j} s e) = names_last ns (j - 1) 1
names_reads w ns (a_join {j = j} {c = c} {F = F} {G = G} {es = es} {fs = fs} q r b t) =
    let last = finished (j - 1) (adds (joins c)) ∷ [] in
    names_append ns es (fs ++ last) ∙ names_append (names_from ns es) fs last ∙ names_last (names_from (names_from ns es) fs) (j - 1) (adds (joins c))
    ∙ ap (λ (z : List (List ℕ)). names_from z fs) (names_reads w ns r) ∙ names_reads w (collect ns F) t
names_reads w ns (a_denial {j = j} {F = F} {es = es} q r) =
    names_append ns es (finished (j - 1) (adds denies) ∷ []) ∙ names_last (names_from ns es) (j - 1) (adds denies) ∙ names_reads w ns r
names_reads w ns (a_relation {k = a} {l = l} {j = j} {m = m} {n = n} {c = c} {x = x} {y = y} q s g b t) =
    let last = finished (j - 1) (adds (relates c)) ∷ [] in
    names_append ns (seen x a m) (seen y n l ++ last) ∙ names_append (names_from ns (seen x a m)) (seen y n l) last ∙ names_last (names_from (names_from ns (seen x a m)) (seen y n l)) (j - 1) (adds (relates c))
    ∙ ap (λ (z : List (List ℕ)). names_from z (seen y n l)) (names_seen ns x a m) ∙ names_seen (note_term ns x) y n l
