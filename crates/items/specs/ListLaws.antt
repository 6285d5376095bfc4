-- What is read of a list is what the machine comes to: its formulas or its terms, and which list it is. Assumes nothing.
use Rattle.std.specs.Prelude.{◌≡◌, refl, true, false, Option, Result, Ok, ℕ, suc, ◌+◌, ◌-◌, ◌≤◌, ◌<◌, length}
use Rattle.std.proofs.Common.{sym, ◌∙◌, subst, add-one, arith}
use Rattle.std.proofs.Math.Path.{ap, ap₂}
use mathlib.Core.List.{List, [], ◌∷◌, ◌++◌, append-nil, append_assoc}
use Rattle.std.proofs.lemmas.Bool.{lt-leb}
use Rattle.grammar.specs.NumberLaws.{More, TermIn}
use Rattle.grammar.proofs.NumberLaws.{more_collect, all_in, form_more, more_term, term_note, number_more}
use Rattle.logic.specs.Numbers.{bad_text}
use Rattle.logic.specs.Formula.{Form}
use Rattle.grammar.specs.Phrase.{Join, Atom, joins, denies, relates, join, deny, relate}
use Rattle.grammar.specs.Phrase.Join.{and_word, or_word, sep_word, wand_word}
use Rattle.grammar.specs.Grammar.{adds, deepest, Byte}
use Rattle.grammar.specs.Machine.{Frame, only_one, first_of, second_of, start, later, item, head, arg, shut, step as next, alive}
use Rattle.grammar.specs.Steps.{waits}
use Rattle.grammar.specs.Steps.{onward}
use Rattle.grammar.proofs.Steps.{looks, skip_item}
use Rattle.grammar.proofs.Forward.{run_open}
use Rattle.grammar.specs.Listing.{size_of, listing}
use Rattle.grammar.specs.Meaning.{collect, note_term, number_of, join_form, atom_form, form_of}
use Rattle.grammar.proofs.MeaningLaws.{join_size, atom_size}
use Rattle.grammar.specs.Outcome.{outcome}
use Rattle.words.specs.Words.{join_of, atom_of, word_of, Skipped, WordIs}
use Rattle.words.specs.declared.BadText.{BadText}
use Rattle.words.specs.declared.Join.{Join as Joined}
use Rattle.words.specs.declared.Atom.{Atom as Related}
use Rattle.words.specs.declared.ListWord.{ListWord as Said}
use Rattle.words.specs.declared.ListWord.TheVariants.{Join as Joins, Atom as Relates}
use Rattle.leaves.specs.declared.Refusal.{Refusal}
use Rattle.names.specs.declared.Names.{Names}
use Rattle.names.specs.Names.{Taken, held, Took, OperandIs}
use Rattle.draft.specs.declared.Nodes.{Nodes}
use Rattle.draft.specs.Drafts.{join_tail, NodesIs}
use Rattle.items.specs.declared.Draft.{Draft}
use Rattle.items.specs.Readings.{Step, step, ClosedIs, form_in, bytes_of, Read, ReadIs}
use Rattle.items.specs.ReadLaws.{refuses_as, stops_at, moved, list_closed}

-- ---- a list of one formula

module _ (s : List ℕ) (depth i : ℕ) (d : Draft) where
  -- the first formula of a list is refused
  pub first_refused : (f : Frame) {r : Step} → ReadIs s item (depth + 1) i d r → ¬ (r.number ≡ 0) → ReadIs s (λ σ. item (f ∷ σ)) depth i d r
  first_refused f h z = record { read = λ y. absurd (z y); refuses = λ _ σ e. h.refuses z (f ∷ σ) (omega (arith, e)) }

  module _ (a : Step) (q : Read s item (depth + 1) i d a) where
    single_reach : (σ : List Frame) → length σ ≡ depth
        → outcome (held d.names) d.nodes.count (onward s (item (only_one ∷ σ)) i) ≡ outcome (held a.draft.names) a.draft.nodes.count (onward s (shut (deny q.phrase) σ) a.at)
    single_reach σ e = q.goes (only_one ∷ σ) (omega (arith, e))

    pub single_read : {n : Option (Unit {0})} {u : Nodes} → NodesIs a.draft.nodes 1 (8 ∷ (a.draft.nodes.count - 1) ∷ 0 ∷ []) n u
        → (r : Result ℕ Refusal) → ClosedIs s a.at n r → ReadIs s (waits denies) depth i d (step r (record { nodes = u; names = a.draft.names }))
    unfolding collect form_of size_of listing
    single_read h r f =
        let A = form_in a.draft q.phrase in
        let last : a.draft.nodes.count - 1 ≡ d.nodes.count + size_of A - 1 = ap (λ (n : ℕ). n - 1) q.nodes in
        list_closed s depth i d (waits denies) (deny q.phrase) a.draft a.at (omega (arith, q.from)) single_reach h q.fine.names q.names (omega (arith, q.nodes))
        (ap₂ (λ (x : List ℕ) (n : ℕ). x ++ (8 ∷ n ∷ 0 ∷ [])) q.bytes last ∙ append_assoc (bytes_of d) (listing d.nodes.count A) (8 ∷ (d.nodes.count + size_of A - 1) ∷ 0 ∷ [])) r f

-- ---- a list of two formulas

-- the nodes of the two, and what the list adds
join_listing : (c : Join) (k : ℕ) (A B : Form) → listing k A ++ (listing (k + size_of A) B ++ join_tail c (k + size_of A) (k + size_of A + size_of B)) ≡ listing k (join_form c A B)
unfolding listing size_of
join_listing and_word k A B = refl
join_listing or_word k A B = refl
join_listing sep_word k A B = refl
join_listing wand_word k A B =
    let m = k + size_of A in
    let n = m + size_of B in
    let e : m + (size_of B + 1) - 1 ≡ n = omega arith in
    let f : k + (size_of A + (size_of B + 1) + 1) - 1 ≡ n + 1 = omega arith in
    rw (e, f)
    (sym (append_assoc (listing k A) ((listing m B ++ (8 ∷ (n - 1) ∷ 0 ∷ [])) ++ (10 ∷ (m - 1) ∷ n ∷ [])) (8 ∷ (n + 1) ∷ 0 ∷ [])
    ∙ ap (λ (x : List ℕ). listing k A ++ x)
    (ap (λ (x : List ℕ). x ++ (8 ∷ (n + 1) ∷ 0 ∷ [])) (append_assoc (listing m B) (8 ∷ (n - 1) ∷ 0 ∷ []) (10 ∷ (m - 1) ∷ n ∷ []))
    ∙ append_assoc (listing m B) (8 ∷ (n - 1) ∷ 0 ∷ 10 ∷ (m - 1) ∷ n ∷ []) (8 ∷ (n + 1) ∷ 0 ∷ []))))

module _ (s : List ℕ) (depth i : ℕ) (d : Draft) (c : Join) (a : Step) (q : Read s item (depth + 1) i d a) where
  pub second_refused : {r : Step} → ReadIs s item (depth + 1) a.at a.draft r → ¬ (r.number ≡ 0) → ReadIs s (waits (joins c)) depth i d r
  second_refused h z =
      record {
        read = λ y. absurd (z y);
        refuses = λ _ σ e. q.goes (first_of c ∷ σ) (omega (arith, e)) ∙ h.refuses z (second_of c q.phrase ∷ σ) (omega (arith, e));
      }

  module _ (b : Step) (u : Read s item (depth + 1) a.at a.draft b) where
    pair_reach : (σ : List Frame) → length σ ≡ depth
        → outcome (held d.names) d.nodes.count (onward s (item (first_of c ∷ σ)) i) ≡ outcome (held b.draft.names) b.draft.nodes.count (onward s (shut (join c q.phrase u.phrase) σ) b.at)
    pair_reach σ e = q.goes (first_of c ∷ σ) (omega (arith, e)) ∙ u.goes (second_of c q.phrase ∷ σ) (omega (arith, e))

    later_place : i ≤ b.at
    later_place = omega (arith, q.from, u.from)

    -- the second formula's names change no number of the first's
    first_form : form_in b.draft q.phrase ≡ form_in a.draft q.phrase
    first_form =
        let F = q.phrase in
        let more : More (held a.draft.names) (held b.draft.names) = subst (λ (ms : List (List ℕ)). More (held a.draft.names) ms) (sym u.names) (more_collect u.phrase (held a.draft.names)) in
        form_more F (held a.draft.names) (held b.draft.names) more (all_in F (held d.names) (held a.draft.names) ([], q.names ∙ sym (append-nil (collect (held d.names) F))))

    pub pair_read : {n : Option (Unit {0})} {t : Nodes} → NodesIs b.draft.nodes (adds (joins c)) (join_tail c a.draft.nodes.count b.draft.nodes.count) n t
        → (r : Result ℕ Refusal) → ClosedIs s b.at n r → ReadIs s (waits (joins c)) depth i d (step r (record { nodes = t; names = b.draft.names }))
    unfolding collect form_of
    pair_read h r f =
        let A = form_in b.draft q.phrase in
        let B = form_in b.draft u.phrase in
        let na : a.draft.nodes.count ≡ d.nodes.count + size_of A = q.nodes ∙ ap (λ (X : Form). d.nodes.count + size_of X) (sym first_form) in
        let nb : b.draft.nodes.count ≡ d.nodes.count + size_of A + size_of B = u.nodes ∙ ap (λ (n : ℕ). n + size_of B) na in
        let bytes_a : bytes_of a.draft ≡ bytes_of d ++ listing d.nodes.count A = q.bytes ∙ ap (λ (X : Form). bytes_of d ++ listing d.nodes.count X) (sym first_form) in
        let bytes_b : bytes_of b.draft ≡ bytes_of d ++ (listing d.nodes.count A ++ listing (d.nodes.count + size_of A) B) =
        u.bytes ∙ ap₂ (λ (x : List ℕ) (n : ℕ). x ++ listing n B) bytes_a na ∙ append_assoc (bytes_of d) (listing d.nodes.count A) (listing (d.nodes.count + size_of A) B) in
        let tail = join_tail c (d.nodes.count + size_of A) (d.nodes.count + size_of A + size_of B) in
        list_closed s depth i d (waits (joins c)) (join c q.phrase u.phrase) b.draft b.at later_place pair_reach h u.fine.names
        (u.names ∙ ap (λ (ns : List (List ℕ)). collect ns u.phrase) q.names)
        (omega (arith, nb, join_size c A B))
        (ap₂ (λ (m n : ℕ). bytes_of b.draft ++ join_tail c m n) na nb ∙ ap (λ (x : List ℕ). x ++ tail) bytes_b
        ∙ append_assoc (bytes_of d) (listing d.nodes.count A ++ listing (d.nodes.count + size_of A) B) tail
        ∙ ap (λ (x : List ℕ). bytes_of d ++ x) (append_assoc (listing d.nodes.count A) (listing (d.nodes.count + size_of A) B) tail ∙ join_listing c d.nodes.count A B)) r f

-- ---- a list of two terms

module _ (s : List ℕ) (depth i : ℕ) (d : Draft) (c : Atom) (a : Taken) (x : Names) where
  pub term_refused : OperandIs s false i d.names a x → ¬ (a.number ≡ 0) → {r : Step} → r.number ≡ a.number → r.at ≡ a.at → ReadIs s (waits (relates c)) depth i d r
  term_refused h z e w = refuses_as s depth i d a.number a.at (omega (arith, z)) e w (λ σ t. h.refuses z d.nodes.count (start c) refl σ)

  module _ (q : Took s false i d.names a x) (b : Taken) (y : Names) where
    pub other_refused : OperandIs s true a.at x b y → ¬ (b.number ≡ 0) → {r : Step} → r.number ≡ b.number → r.at ≡ b.at → ReadIs s (waits (relates c)) depth i d r
    other_refused h z e w =
        refuses_as s depth i d b.number b.at (omega (arith, z)) e w (λ σ t. q.goes d.nodes.count (start c) refl σ ∙ h.refuses z d.nodes.count (later c q.term) refl σ)

    module _ (u : Took s true a.at x b y) where
      named : Draft
      named = record { nodes = d.nodes; names = y }

      relation_reach : (σ : List Frame) → length σ ≡ depth
          → outcome (held d.names) d.nodes.count (onward s (arg (start c) σ) i) ≡ outcome (held y) d.nodes.count (onward s (shut (relate c q.term u.term) σ) b.at)
      relation_reach σ e = q.goes d.nodes.count (start c) refl σ ∙ u.goes d.nodes.count (later c q.term) refl σ

      further : i ≤ b.at
      further = omega (arith, q.from, u.from)

      -- the second name changes no number of the first
      first_number : a.variable ≡ number_of (held y) q.term
      first_number =
          let more : More (held x) (held y) = subst (λ (ms : List (List ℕ)). More (held x) ms) (sym u.noted) (more_term (held x) u.term) in
          q.number ∙ sym (number_more (held x) (held y) q.term more (subst (λ (ms : List (List ℕ)). TermIn ms q.term) (sym q.noted) (term_note (held d.names) q.term)))

      pub relation_read : {n : Option (Unit {0})} {t : Nodes} → NodesIs d.nodes (adds (relates c)) (listing d.nodes.count (atom_form c a.variable b.variable)) n t
          → (r : Result ℕ Refusal) → ClosedIs s b.at n r → ReadIs s (waits (relates c)) depth i d (step r (record { nodes = t; names = y }))
      unfolding named collect form_of
      relation_read h r f =
          let X = number_of (held y) q.term in
          let Y = number_of (held y) u.term in
          list_closed s depth i d (waits (relates c)) (relate c q.term u.term) named b.at further relation_reach h u.fine
          (u.noted ∙ ap (λ (ns : List (List ℕ)). note_term ns u.term) q.noted)
          (omega (arith, atom_size c X Y))
          (ap₂ (λ (v w : ℕ). bytes_of d ++ listing d.nodes.count (atom_form c v w)) first_number u.number) r f

-- ---- which list it is

module _ (s : List ℕ) (depth i : ℕ) (d : Draft) (r : Step) where
  pub joins_are : (c : Joined) → ReadIs s (waits (joins (join_of c))) depth i d r → ReadIs s (waits (word_of (Joins c))) depth i d r
  joins_are c h = h

  pub relates_are : (c : Related) → ReadIs s (waits (relates (atom_of c))) depth i d r → ReadIs s (waits (word_of (Relates c))) depth i d r
  relates_are c h = h

-- a list goes on behind the word that was said
module _ (s : List ℕ) (i : ℕ) {x : Result (ℕ × Said) BadText} {e : ℕ} {w : Said} (h : x ≡ Ok (e, w)) (q : WordIs s i x) where
  pub word_said : WordIs s i (Ok (e, w))
  word_said = subst (WordIs s i) h q

  pub list_said : (depth : ℕ) (d : Draft) (r : Step) (v : Said) → w ≡ v → ReadIs s (waits (word_of v)) depth e d r → ReadIs s head depth i d r
  list_said depth d r v p k = moved s depth i d (waits (word_of v)) e (omega (arith, word_said.0)) (λ σ t. word_said.2 σ ∙ ap (λ (u : Said). onward s (waits (word_of u) σ) e) p) k

-- ---- an item

module _ (s : List ℕ) (depth i : ℕ) (d : Draft) (j : ℕ) (k : Skipped s i j) (r : Step) where
  pub item_empty : ReadIs s item depth j d r → ReadIs s item depth i d r
  item_empty h = moved s depth i d item j k.from (λ σ e. skip_item s σ k.blanks) h

  pub item_list : Byte s 40 j → depth < deepest → ReadIs s head depth (j + 1) d r → ReadIs s item depth i d r
  item_list q l h =
      moved s depth i d head (j + 1) (omega (arith, k.from)) (λ σ e. skip_item s σ k.blanks ∙ run_open s σ q (omega (arith, e, l)) ∙ ap (onward s (head σ)) (sym (add-one j))) h

  pub item_deep : Byte s 40 j → deepest ≤ depth → r.number ≡ bad_text → r.at ≡ j → ReadIs s item depth i d r
  unfolding next alive
  item_deep q l e a = stops_at s depth i d j e a (λ σ t. skip_item s σ k.blanks ∙ looks s (item σ) q ∙ rw (lt-leb (suc (length σ)) deepest (omega (arith, t, l))))
