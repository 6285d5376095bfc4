-- The numbers of names: later names change none of them, and no formula has one that is over how many names there are. Assumes
-- nothing.
use Rattle.std.specs.Prelude.{◌≡◌, refl, Bool, true, false, List, [], ◌∷◌, ◌++◌, ℕ, suc, ◌≤◌, ◌<◌, length, ltb}
use Rattle.std.proofs.Common.{sym, ap, ap₂, ◌∙◌, subst, append-nil, append_assoc, arith, lt-ltb, le-ltb, ltb-true, ltb-false}
use Rattle.grammar.specs.ListingLaws.{Within}
use Rattle.logic.specs.Formula.{Form}
use Rattle.logic.specs.Formula.Form.{neg}
use Rattle.logic.proofs.Reflect.{false_true, is_same_bytes}
use Rattle.logic.specs.Tests.{orb, same_bytes}
use Rattle.grammar.specs.Phrase.{Join, Term, nil_term, name_term, Phrase, emp, join, deny, relate, Atom, choose}
use Rattle.grammar.specs.Phrase.Join.{and_word, or_word, sep_word, wand_word}
use Rattle.grammar.specs.Phrase.Atom.{equal_word, distinct_word, pto_word, ls_word}
use Rattle.grammar.specs.Places.{known, note}
use Rattle.grammar.specs.Meaning.{note_term, collect, position, number_of, join_form, atom_form, form_of}
use Rattle.grammar.specs.NumberLaws.{More, TermIn, AllIn}

-- a known name has a place
pub position_known : (ns : List (List ℕ)) (x : List ℕ) → known ns x ≡ true → position ns x < length ns
unfolding known position
position_known [] x h = false_true h
position_known (y ∷ ns) x h = go (same_bytes y x) refl (position_known ns x)
  where
    go : (c : Bool) → same_bytes y x ≡ c → (known ns x ≡ true → position ns x < length ns) → choose c 0 (suc (position ns x)) < suc (length ns)
    go true e f = omega arith
    go false e f = let l = f (rw e at h) in omega arith

-- which stays when names are added
pub position_more : (ns ms : List (List ℕ)) (x : List ℕ) → known ns x ≡ true → position (ns ++ ms) x ≡ position ns x
unfolding known position
position_more [] ms x h = false_true h
position_more (y ∷ ns) ms x h = go (same_bytes y x) refl (position_more ns ms x)
  where
    go : (c : Bool) → same_bytes y x ≡ c → (known ns x ≡ true → position (ns ++ ms) x ≡ position ns x) → choose c 0 (suc (position (ns ++ ms) x)) ≡ choose c 0 (suc (position ns x))
    go true e f = refl
    go false e f = ap suc (f (rw e at h))

-- a name is known where its place is one of the names'
pub known_place : (ns : List (List ℕ)) (x : List ℕ) → known ns x ≡ ltb (position ns x) (length ns)
unfolding known position
known_place [] x = sym (le-ltb 0 0 (omega arith))
known_place (y ∷ ns) x = go (same_bytes y x) (known_place ns x)
  where
    go : (c : Bool) → known ns x ≡ ltb (position ns x) (length ns) → orb c (known ns x) ≡ ltb (choose c 0 (suc (position ns x))) (suc (length ns))
    go true e = sym (lt-ltb 0 (suc (length ns)) (omega arith))
    go false e = e ∙ shifted (ltb (position ns x) (length ns)) refl
      where
        shifted : (c : Bool) → ltb (position ns x) (length ns) ≡ c → c ≡ ltb (suc (position ns x)) (suc (length ns))
        shifted true h = sym (lt-ltb (suc (position ns x)) (suc (length ns)) (omega (arith, ltb-true (position ns x) (length ns) h)))
        shifted false h = sym (le-ltb (suc (position ns x)) (suc (length ns)) (omega (arith, ltb-false (position ns x) (length ns) h)))

-- a new name's place is the next
pub position_new : (ns : List (List ℕ)) (x : List ℕ) → known ns x ≡ false → position (ns ++ (x ∷ [])) x ≡ length ns
unfolding known position
position_new [] x h = rw ((is_same_bytes x x).from refl)
position_new (y ∷ ns) x h = go (same_bytes y x) refl (position_new ns x)
  where
    go : (c : Bool) → same_bytes y x ≡ c → (known ns x ≡ false → position (ns ++ (x ∷ [])) x ≡ length ns) → choose c 0 (suc (position (ns ++ (x ∷ [])) x)) ≡ suc (length ns)
    go true e f = false_true (sym (rw e at h))
    go false e f = ap suc (f (rw e at h))

known_more : (ns ms : List (List ℕ)) (x : List ℕ) → known ns x ≡ true → known (ns ++ ms) x ≡ true
unfolding known
known_more [] ms x h = false_true h
known_more (y ∷ ns) ms x h = go (same_bytes y x) refl (known_more ns ms x)
  where
    go : (c : Bool) → same_bytes y x ≡ c → (known ns x ≡ true → known (ns ++ ms) x ≡ true) → orb c (known (ns ++ ms) x) ≡ true
    go true e f = refl
    go false e f = f (rw e at h)

known_last : (ns : List (List ℕ)) (x : List ℕ) → known (ns ++ (x ∷ [])) x ≡ true
unfolding known
known_last [] x = rw ((is_same_bytes x x).from refl)
known_last (y ∷ ns) x = go (same_bytes y x) (known_last ns x)
  where
    go : (c : Bool) → known (ns ++ (x ∷ [])) x ≡ true → orb c (known (ns ++ (x ∷ [])) x) ≡ true
    go true h = refl
    go false h = h

pub more_same : (ns : List (List ℕ)) → More ns ns
more_same ns = ([], sym (append-nil ns))

pub more_more : (ns ms ks : List (List ℕ)) → More ns ms → More ms ks → More ns ks
more_more ns ms ks p q = (p.0 ++ q.0, q.1 ∙ ap (λ (z : List (List ℕ)). z ++ q.0) p.1 ∙ append_assoc ns p.0 q.0)

more_note : (ns : List (List ℕ)) (x : List ℕ) → More ns (note ns x)
more_note ns x = go (known ns x)
  where
    go : (c : Bool) → More ns (choose c ns (ns ++ (x ∷ [])))
    go true = more_same ns
    go false = (x ∷ [], refl)

pub more_term : (ns : List (List ℕ)) (x : Term) → More ns (note_term ns x)
more_term ns nil_term = more_same ns
more_term ns (name_term x) = more_note ns x

pub more_collect : (F : Phrase) (ns : List (List ℕ)) → More ns (collect ns F)
unfolding collect
more_collect emp ns = more_same ns
more_collect (join c F G) ns = more_more ns (collect ns F) (collect (collect ns F) G) (more_collect F ns) (more_collect G (collect ns F))
more_collect (deny F) ns = more_collect F ns
more_collect (relate c x y) ns = more_more ns (note_term ns x) (note_term (note_term ns x) y) (more_term ns x) (more_term (note_term ns x) y)

term_more : (ns ms : List (List ℕ)) (x : Term) → More ns ms → TermIn ns x → TermIn ms x
term_more ns ms nil_term p h = tt
term_more ns ms (name_term x) p h = subst (λ (z : List (List ℕ)). known z x ≡ true) (sym p.1) (known_more ns p.0 x h)

pub term_note : (ns : List (List ℕ)) (x : Term) → TermIn (note_term ns x) x
term_note ns nil_term = tt
term_note ns (name_term x) = go (known ns x) refl
  where
    go : (c : Bool) → known ns x ≡ c → known (choose c ns (ns ++ (x ∷ []))) x ≡ true
    go true e = e
    go false e = known_last ns x

pub all_in : (F : Phrase) (ns ms : List (List ℕ)) → More (collect ns F) ms → AllIn ms F
unfolding collect AllIn
all_in emp ns ms p = tt
all_in (join c F G) ns ms p = (all_in F ns ms (more_more (collect ns F) (collect (collect ns F) G) ms (more_collect G (collect ns F)) p), all_in G (collect ns F) ms p)
all_in (deny F) ns ms p = all_in F ns ms p
all_in (relate c x y) ns ms p = (
  term_more (note_term ns x) ms x (more_more (note_term ns x) (note_term (note_term ns x) y) ms (more_term (note_term ns x) y) p) (term_note ns x),
  term_more (note_term (note_term ns x) y) ms y p (term_note (note_term ns x) y),
)

term_number : (ms : List (List ℕ)) (x : Term) → TermIn ms x → number_of ms x ≤ length ms
term_number ms nil_term h = omega arith
term_number ms (name_term x) h = position_known ms x h

atom_within : (v : ℕ) (c : Atom) (x y : ℕ) → x ≤ v → y ≤ v → Within v (atom_form c x y)
unfolding Within
atom_within v equal_word x y a b = ((a, b), (omega arith, omega arith))
atom_within v distinct_word x y a b = ((a, b), (omega arith, omega arith))
atom_within v pto_word x y a b = (a, b)
atom_within v ls_word x y a b = (a, b)

join_within : (v : ℕ) (c : Join) (a b : Form) → Within v a → Within v b → Within v (join_form c a b)
unfolding Within
join_within v and_word a b p q = (p, q)
join_within v or_word a b p q = (p, q)
join_within v sep_word a b p q = (p, q)
join_within v wand_word a b p q = (p, q)

pub all_within : (F : Phrase) (ms : List (List ℕ)) → AllIn ms F → Within (length ms) (form_of (number_of ms) F)
unfolding AllIn form_of Within
all_within emp ms h = (omega arith, omega arith)
all_within (join c F G) ms h = join_within (length ms) c (form_of (number_of ms) F) (form_of (number_of ms) G) (all_within F ms h.0) (all_within G ms h.1)
all_within (deny F) ms h = all_within F ms h
all_within (relate c x y) ms h = atom_within (length ms) c (number_of ms x) (number_of ms y) (term_number ms x h.0) (term_number ms y h.1)

-- later names change no number
pub number_more : (ns ms : List (List ℕ)) (x : Term) → More ns ms → TermIn ns x → number_of ms x ≡ number_of ns x
number_more ns ms nil_term p h = refl
number_more ns ms (name_term x) p h = ap (λ (z : List (List ℕ)). suc (position z x)) p.1 ∙ ap suc (position_more ns p.0 x h)

pub form_more : (F : Phrase) (ns ms : List (List ℕ)) → More ns ms → AllIn ns F → form_of (number_of ms) F ≡ form_of (number_of ns) F
unfolding AllIn form_of
form_more emp ns ms p h = refl
form_more (join c F G) ns ms p h = ap₂ (join_form c) (form_more F ns ms p h.0) (form_more G ns ms p h.1)
form_more (deny F) ns ms p h = ap neg (form_more F ns ms p h)
form_more (relate c x y) ns ms p h = ap₂ (atom_form c) (number_more ns ms x p h.0) (number_more ns ms y p h.1)
