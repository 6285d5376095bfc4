-- The first limit that is passed is the lowest, and there is no other at its place. Assumes nothing.
use Rattle.std.specs.Prelude.{◌≡◌, refl, Bool, true, false, not, List, [], ◌∷◌, ◌++◌, ℕ, suc, ◌+◌, ◌≤◌, ◌<◌, eqb, leb, length}
use Rattle.std.proofs.Common.{sym, ◌∙◌, inl, inr, ⊎_elim, arith, length-append, eqb-true, leb-true, leb-false}
use Rattle.std.proofs.lemmas.Bool.{eqb-false}
use Rattle.logic.specs.Book.{most, most_nodes}
use Rattle.logic.specs.Numbers.{many_nodes, many_names}
use Rattle.logic.proofs.Reflect.{false_true}
use Rattle.logic.specs.Tests.{andb}
use Rattle.grammar.specs.Phrase.{choose}
use Rattle.grammar.specs.Grammar.{Event, named, finished}
use Rattle.grammar.specs.Places.{known, note, PassesAt, NameOverAt}
use Rattle.grammar.specs.Places.PassesAt.{passing, past_item, past_name}
use Rattle.grammar.specs.Places.NameOverAt.{one_over, after_name, after_item}
use Rattle.grammar.specs.Machine.{Trace, emits}
use Rattle.grammar.specs.Outcome.{outcome, nodes_from, names_from}
use Rattle.grammar.specs.Sorted.{Sorted}
use Rattle.grammar.specs.LowestLaws.{Excess, names_first, nodes_first, Sifted}

passes_low : (lo k : ℕ) (es : List Event) (q : ℕ) → Sorted lo es → PassesAt k es q → lo ≤ q
unfolding Sorted
passes_low lo k [] q h x = elim x [ ]
passes_low lo k (finished p m ∷ es) q h (passing a b) = h.0
passes_low lo k (finished p m ∷ es) q h (past_item r) = omega (arith, h.0, passes_low (suc p) (k + m) es q h.1 r)
passes_low lo k (named x i j ∷ es) q h (past_name r) = omega (arith, h.0, h.1, passes_low j k es q h.2 r)

pub over_low : (w lo : ℕ) (ns : List (List ℕ)) (es : List Event) (q : ℕ) → Sorted lo es → NameOverAt w ns es q → lo ≤ q
unfolding Sorted
over_low w lo ns [] q h x = elim x [ ]
over_low w lo ns (named x i j ∷ es) q h (one_over a b) = h.0
over_low w lo ns (named x i j ∷ es) q h (after_name r) = omega (arith, h.0, h.1, over_low w j (note ns x) es q h.2 r)
over_low w lo ns (finished p m ∷ es) q h (after_item r) = omega (arith, h.0, over_low w (suc p) ns es q h.1 r)

-- once 64 are passed they are not passed again
no_more_passes : (k : ℕ) (es : List Event) (q : ℕ) → most_nodes < k → ¬ PassesAt k es q
no_more_passes k [] q l x = elim x [ ]
no_more_passes k (finished p m ∷ es) q l (passing a b) = omega arith
no_more_passes k (finished p m ∷ es) q l (past_item r) = no_more_passes (k + m) es q (omega arith) r
no_more_passes k (named x i j ∷ es) q l (past_name r) = no_more_passes k es q l r

note_long : (ns : List (List ℕ)) (x : List ℕ) → length ns ≤ length (note ns x)
note_long ns x = go (known ns x)
  where
    go : (c : Bool) → length ns ≤ length (choose c ns (ns ++ (x ∷ [])))
    go true = omega arith
    go false = omega (arith, length-append ns (x ∷ []))

no_more_over : (ns : List (List ℕ)) (es : List Event) (q : ℕ) → most < length ns → ¬ NameOverAt most ns es q
no_more_over ns [] q l x = elim x [ ]
no_more_over ns (named x i j ∷ es) q l (one_over a b) = omega arith
no_more_over ns (named x i j ∷ es) q l (after_name r) = no_more_over (note ns x) es q (omega (arith, note_long ns x)) r
no_more_over ns (finished p m ∷ es) q l (after_item r) = no_more_over ns es q l r

-- an item more, that stays within the limit
item_clean : (ns : List (List ℕ)) (k p m : ℕ) (es : List Event) → k + m ≤ most_nodes → (q : ℕ) → PassesAt k (finished p m ∷ es) q → PassesAt (k + m) es q
item_clean ns k p m es l q (passing u v) = absurd (omega arith)
item_clean ns k p m es l q (past_item h) = h

item_names : (ns : List (List ℕ)) (p m : ℕ) (es : List Event) (q : ℕ) → NameOverAt most ns (finished p m ∷ es) q → NameOverAt most ns es q
item_names ns p m es q (after_item h) = h

excess_item : (ns : List (List ℕ)) (k p m : ℕ) (es : List Event) → k + m ≤ most_nodes → (r q : ℕ) → Excess ns (k + m) es r q → Excess ns k (finished p m ∷ es) r q
excess_item ns k p m es l r q (nodes_first z a b c) =
    nodes_first z (past_item a) (λ j h. b j (item_clean ns k p m es l j h)) (λ i h. c i (item_names ns p m es i h))
excess_item ns k p m es l r q (names_first z a b c) =
    names_first z (after_item a) (λ j h. b j (item_names ns p m es j h)) (λ j h. c j (item_clean ns k p m es l j h))

-- a name more, that is known or for which there is room
name_nodes : (k : ℕ) (x : List ℕ) (i j : ℕ) (es : List Event) (q : ℕ) → PassesAt k (named x i j ∷ es) q → PassesAt k es q
name_nodes k x i j es q (past_name h) = h

name_clean : (ns : List (List ℕ)) (x : List ℕ) (i j : ℕ) (es : List Event) → (known ns x ≡ false → ¬ (length ns ≡ most)) → (q : ℕ) → NameOverAt most ns (named x i j ∷ es) q → NameOverAt most (note ns x) es q
name_clean ns x i j es f q (one_over u v) = absurd (f u v)
name_clean ns x i j es f q (after_name h) = h

excess_name : (ns : List (List ℕ)) (k : ℕ) (x : List ℕ) (i j : ℕ) (es : List Event) → (known ns x ≡ false → ¬ (length ns ≡ most)) → (r q : ℕ) → Excess (note ns x) k es r q → Excess ns k (named x i j ∷ es) r q
excess_name ns k x i j es f r q (nodes_first z a b c) =
    nodes_first z (past_name a) (λ p h. b p (name_nodes k x i j es p h)) (λ p h. c p (name_clean ns x i j es f p h))
excess_name ns k x i j es f r q (names_first z a b c) =
    names_first z (after_name a) (λ p h. b p (name_clean ns x i j es f p h)) (λ p h. c p (name_nodes k x i j es p h))

-- the item with which 64 are passed
item_over : (ns : List (List ℕ)) (k p m : ℕ) (es : List Event) → k ≤ most_nodes → most_nodes < k + m → Sorted (suc p) es → Excess ns k (finished p m ∷ es) many_nodes p
item_over ns k p m es a b h = nodes_first p (passing a b) low (λ i s. over_low most (suc p) ns es i h (item_names ns p m es i s))
  where
    low : (r : ℕ) → PassesAt k (finished p m ∷ es) r → p ≤ r
    low r (passing u v) = omega arith
    low r (past_item s) = absurd (no_more_passes (k + m) es r b s)

-- the name that is one too many
name_over : (ns : List (List ℕ)) (k : ℕ) (x : List ℕ) (i j : ℕ) (es : List Event) → known ns x ≡ false → length ns ≡ most → i < j → Sorted j es → Excess ns k (named x i j ∷ es) many_names i
name_over ns k x i j es a b l h = names_first i (one_over a b) low (λ q s. omega (arith, passes_low j k es q h (name_nodes k x i j es q s)))
  where
    long : most < length (note ns x)
    long = rw a (omega (arith, length-append ns (x ∷ [])))

    low : (r : ℕ) → NameOverAt most ns (named x i j ∷ es) r → i ≤ r
    low r (one_over u v) = omega arith
    low r (after_name s) = absurd (no_more_over (note ns x) es r long s)

passes_some : (k : ℕ) (es : List Event) (q : ℕ) → PassesAt k es q → 1 ≤ length es
passes_some k [] q h = elim h [ ]
passes_some k (e ∷ es) q h = omega arith

over_some : (ns : List (List ℕ)) (es : List Event) (i : ℕ) → NameOverAt most ns es i → 1 ≤ length es
over_some ns [] i h = elim h [ ]
over_some ns (e ∷ es) i h = omega arith

nothing_passes : (k q : ℕ) → ¬ PassesAt k [] q
nothing_passes k q h = let l : 1 ≤ 0 = passes_some k [] q h in omega arith

no_name : (ns : List (List ℕ)) (i : ℕ) → ¬ NameOverAt most ns [] i
no_name ns i h = let l : 1 ≤ 0 = over_some ns [] i h in omega arith

pub note_room : (w : ℕ) (ns : List (List ℕ)) (x : List ℕ) → length ns ≤ w → (known ns x ≡ false → ¬ (length ns ≡ w)) → length (note ns x) ≤ w
note_room w ns x l f = go (known ns x) refl
  where
    go : (c : Bool) → known ns x ≡ c → length (choose c ns (ns ++ (x ∷ []))) ≤ w
    go true e = l
    go false e = let g = f e in omega (arith, length-append ns (x ∷ []))

pub sift : (es : List Event) (ns : List (List ℕ)) (k lo : ℕ) (t : Trace) → Sorted lo es → length ns ≤ most → k ≤ most_nodes → Sifted ns k es t
unfolding Sorted outcome emits names_from nodes_from
sift [] ns k lo t h a b = inr ((λ q. nothing_passes k q, λ i. no_name ns i), refl, a, b)
sift (finished p m ∷ es) ns k lo t h a b = go (leb (k + m) most_nodes) refl (sift es ns (k + m) (suc p) t h.1 a)
  where
    go : (c : Bool) → leb (k + m) most_nodes ≡ c → (k + m ≤ most_nodes → Sifted ns (k + m) es t) → Sifted ns k (finished p m ∷ es) t
    go false e f = inl (many_nodes, p, rw e, item_over ns k p m es b (omega (arith, leb-false (k + m) most_nodes e)) h.1)
    go true e f =
        let l = leb-true (k + m) most_nodes e in
        ⊎_elim (λ q. inl (q.0, q.1, rw e q.2, excess_item ns k p m es l q.0 q.1 q.3))
        (λ q. inr ((λ r z. q.0.0 r (item_clean ns k p m es l r z), λ r z. q.0.1 r (item_names ns p m es r z)), rw e q.1, q.2, q.3)) (f l)
sift (named x i j ∷ es) ns k lo t h a b = go (known ns x) refl (eqb (length ns) most) refl (λ l. sift es (note ns x) k j t h.2 l b)
  where
    more : (known ns x ≡ false → ¬ (length ns ≡ most)) → andb (not (known ns x)) (eqb (length ns) most) ≡ false → (length (note ns x) ≤ most → Sifted (note ns x) k es t) → Sifted ns k (named x i j ∷ es) t
    more f e g =
        ⊎_elim (λ q. inl (q.0, q.1, rw e q.2, excess_name ns k x i j es f q.0 q.1 q.3))
        (λ q. inr ((λ r z. q.0.0 r (name_nodes k x i j es r z), λ r z. q.0.1 r (name_clean ns x i j es f r z)), rw e q.1, q.2, q.3)) (g (note_room most ns x a f))

    go : (c : Bool) → known ns x ≡ c → (d : Bool) → eqb (length ns) most ≡ d → (length (note ns x) ≤ most → Sifted (note ns x) k es t) → Sifted ns k (named x i j ∷ es) t
    go true e d e' g = more (λ z. false_true (sym z ∙ e)) (rw e) g
    go false e true e' g = inl (many_names, i, rw (e, e'), name_over ns k x i j es e (eqb-true (length ns) most e') h.1 h.2)
    go false e false e' g = more (λ _ z. eqb-false (length ns) most e' z) (rw (e, e')) g
