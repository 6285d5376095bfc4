-- What a text means is what the machine reads; so a text has one meaning. The text is w. Assumes nothing.
use Rattle.std.specs.Prelude.{◌≡◌, Bool, ◌⊎◌, get_or}
use Rattle.std.proofs.Math.Path.{refl, sym, ap}
use Rattle.std.proofs.Common.{◌∙◌, inl, inr}
use Rattle.std.proofs.Math.Bool.{true, false}
use mathlib.Core.List.{List, [], ◌∷◌, ◌++◌, append-nil, append_assoc}
use Prim.Native.Nat.{ℕ, suc, ◌+◌, ◌-◌, ◌≤◌, ◌<◌}
use native.Mathlib.Omega.{arith}
use Rattle.std.proofs.Math.Dec.{eqb}
use Rattle.std.proofs.Math.ListN.{length, length-append}
use borrow.Author.Tests.{eqb-true, eq-eqb, le-leb, lt-ltb, eqb-false}
use Rattle.logic.specs.Tests.{same_bytes}
use Rattle.grammar.specs.Phrase.{Join, Word, joins, denies, relates, Term, nil_term, name_term, Phrase, emp, join, deny, relate, spelling, lower, letter, bytes, longest}
use Rattle.grammar.specs.Phrase.Join.{and_word, or_word, sep_word, wand_word}
use Rattle.grammar.specs.Phrase.Atom.{equal_word, distinct_word, pto_word, ls_word}
use Rattle.grammar.specs.Grammar.{Event, named, finished, adds, deepest, blank, seen, Byte, Spelt, Blanks, Edge, Stands, Listed, Reads, Means}
use Rattle.grammar.specs.Grammar.Spelt.{no_more, one_more}
use Rattle.grammar.specs.Grammar.Blanks.{no_blank, a_blank}
use Rattle.grammar.specs.Grammar.Edge.{at_end, at_blank, at_open, at_close}
use Rattle.grammar.specs.Grammar.Stands.{a_nil, a_name}
use Rattle.grammar.specs.Grammar.Reads.{an_emp, a_join, a_denial, a_relation}
use Rattle.grammar.specs.Machine.{Frame, only_one, first_of, second_of, Spot, start, later, item, gap, empty, head, word, arg, name, nil, shut, over, words, reserved, viable, past, termed, begun, step, own, shuts, out, read, event, emits, ending, alive, run}
use Rattle.grammar.proofs.Spellings.{lower_no_blank, other, blank_no_letter, none_among}
use Rattle.grammar.specs.Traces.{events_of, phrase_of_trace}
use Rattle.grammar.proofs.Traces.{emits_emits, emitted}
use Rattle.grammar.specs.Steps.{waits}
use Rattle.grammar.specs.Steps.{onward}
use Rattle.grammar.proofs.Steps.{past_alive, termed_alive, goes, goes_still, alike, ended, skip_item, skip_head, skip_arg, skip_shut, skip_over}
use Rattle.grammar.specs.Forward.{lettered}
use Rattle.grammar.specs.Forward.{Behind}

module _ (w : List ℕ) where
  -- ---- words

  pub spells : (c : Word) (σ : List Frame) {x : List ℕ} {i j : ℕ} → Spelt w x i j → onward w (word c x σ) i ≡ onward w (word c [] σ) j
  unfolding step out alive
  spells c σ no_more = refl
  spells c σ (one_more {b = b} {x = x} q k) = goes_still w (word c (b ∷ x) σ) (word c x σ) q (rw (eq-eqb b b refl)) refl refl ∙ spells c σ k

  pub spells_nil : (p : Spot) (σ : List Frame) {x : List ℕ} {i j : ℕ} → Spelt w x i j → onward w (nil x p σ) i ≡ onward w (nil [] p σ) j
  unfolding step out alive
  spells_nil p σ no_more = refl
  spells_nil p σ (one_more {b = b} {x = x} q k) = goes_still w (nil (b ∷ x) p σ) (nil x p σ) q (rw (eq-eqb b b refl)) refl refl ∙ spells_nil p σ k

  pub spells_emp : (σ : List Frame) (c : ℕ) (r : List ℕ) {i j : ℕ} → Spelt w (c ∷ r) i j
      → onward w (empty c r σ) i ≡ emits (finished (j - 1) 1 ∷ []) (onward w (past true emp σ) j)
  unfolding step out alive
  spells_emp σ c [] {i} (one_more q no_more) =
      let e : i ≡ suc i - 1 = omega arith in
      goes w (empty c [] σ) (past true emp σ) q (rw (eq-eqb c c refl)) (past_alive true emp σ)
      ∙ ap (λ (k : ℕ). emits (finished k 1 ∷ []) (onward w (past true emp σ) (suc i))) e
  spells_emp σ c (d ∷ r) (one_more q k) = goes_still w (empty c (d ∷ r) σ) (empty d r σ) q (rw (eq-eqb c c refl)) refl refl ∙ spells_emp σ d r k

  -- the word of a list
  heads : (c : Word) (σ : List Frame) (b : ℕ) (x : List ℕ) {i j : ℕ} → step (head σ) b ≡ word c x σ → Spelt w (b ∷ x) i j → onward w (head σ) i ≡ onward w (word c [] σ) j
  unfolding out alive
  heads c σ b x e (one_more q k) = goes_still w (head σ) (word c x σ) q e refl refl ∙ spells c σ k

  pub run_word : (c : Word) (σ : List Frame) {i j : ℕ} → Spelt w (spelling c) i j → onward w (head σ) i ≡ onward w (word c [] σ) j
  unfolding step begun
  run_word (joins and_word) σ k = heads (joins and_word) σ _ _ refl k
  run_word (joins or_word) σ k = heads (joins or_word) σ _ _ refl k
  run_word (joins sep_word) σ k = heads (joins sep_word) σ _ _ refl k
  run_word (joins wand_word) σ k = heads (joins wand_word) σ _ _ refl k
  run_word denies σ k = heads denies σ _ _ refl k
  run_word (relates equal_word) σ k = heads (relates equal_word) σ _ _ refl k
  run_word (relates distinct_word) σ k = heads (relates distinct_word) σ _ _ refl k
  run_word (relates pto_word) σ k = heads (relates pto_word) σ _ _ refl k
  run_word (relates ls_word) σ k = heads (relates ls_word) σ _ _ refl k

  -- the edge behind a word
  pub run_edge : (c : Word) (σ : List Frame) {i : ℕ} → Edge w i → onward w (word c [] σ) i ≡ onward w (waits c σ) i
  unfolding step out ending
  run_edge (joins c) σ at_end = ended w (word (joins c) [] σ) ∙ sym (ended w (item (first_of c ∷ σ)))
  run_edge denies σ at_end = ended w (word denies [] σ) ∙ sym (ended w (item (only_one ∷ σ)))
  run_edge (relates c) σ at_end = ended w (word (relates c) [] σ) ∙ sym (ended w (arg (start c) σ))
  run_edge (joins c) σ (at_blank h q) = alike w (word (joins c) [] σ) (item (first_of c ∷ σ)) q (rw h) refl
  run_edge denies σ (at_blank h q) = alike w (word denies [] σ) (item (only_one ∷ σ)) q (rw h) refl
  run_edge (relates c) σ (at_blank h q) = alike w (word (relates c) [] σ) (arg (start c) σ) q (rw h) refl
  run_edge (joins c) σ (at_open q) = alike w (word (joins c) [] σ) (item (first_of c ∷ σ)) q refl refl
  run_edge denies σ (at_open q) = alike w (word denies [] σ) (item (only_one ∷ σ)) q refl refl
  run_edge (relates c) σ (at_open q) = alike w (word (relates c) [] σ) (arg (start c) σ) q refl refl
  run_edge (joins c) σ (at_close q) = alike w (word (joins c) [] σ) (item (first_of c ∷ σ)) q refl refl
  run_edge denies σ (at_close q) = alike w (word denies [] σ) (item (only_one ∷ σ)) q refl refl
  run_edge (relates c) σ (at_close q) = alike w (word (relates c) [] σ) (arg (start c) σ) q refl refl

  pub run_gap : (σ : List Frame) {i : ℕ} → Edge w i → onward w (gap σ) i ≡ onward w (item σ) i
  unfolding step out ending
  run_gap σ at_end = ended w (gap σ) ∙ sym (ended w (item σ))
  run_gap σ (at_blank h q) = alike w (gap σ) (item σ) q (rw h) refl
  run_gap σ (at_open q) = alike w (gap σ) (item σ) q refl refl
  run_gap σ (at_close q) = alike w (gap σ) (item σ) q refl refl

  -- ---- a list

  pub run_open : (σ : List Frame) {i : ℕ} → Byte w 40 i → length σ < deepest → onward w (item σ) i ≡ onward w (head σ) (suc i)
  unfolding step out alive
  run_open σ q h = goes_still w (item σ) (head σ) q (rw (le-leb (suc (length σ)) deepest h)) refl refl

  pub run_close : (F : Phrase) (σ : List Frame) {i j : ℕ} → Byte w 41 i → suc i ≡ j → onward w (shut F σ) i ≡ emits (finished (j - 1) (own F) ∷ []) (onward w (past false F σ) j)
  unfolding step out
  run_close F σ {i} q e =
      let f : i ≡ suc i - 1 = omega arith in
      goes w (shut F σ) (past false F σ) q refl (past_alive false F σ)
      ∙ ap (λ (k : ℕ). emits (finished k (own F) ∷ []) (onward w (past false F σ) (suc i))) f
      ∙ ap (λ (k : ℕ). emits (finished (k - 1) (own F) ∷ []) (onward w (past false F σ) k)) e

  module _ {d : ℕ} {c : Word} {i k l j : ℕ} (q : Listed w d c i k l j) (σ : List Frame) where
    pub run_begin : length σ ≡ d → onward w (item σ) i ≡ onward w (waits c σ) q.ends
    run_begin e = run_open σ q.opens (omega (arith, q.depth)) ∙ skip_head w σ q.before ∙ run_word c σ q.word ∙ run_edge c σ q.edge

    pub run_end : (F : Phrase) → onward w (shut F σ) l ≡ emits (finished (j - 1) (own F) ∷ []) (onward w (past false F σ) j)
    run_end F = skip_shut w F σ q.after ∙ run_close F σ q.closes q.last

  -- ---- names

  skip_termed : (x : Term) (p : Spot) (σ : List Frame) {b i : ℕ} → blank b ≡ true → Byte w b i → onward w (termed x p σ) i ≡ onward w (termed x p σ) (suc i)
  skip_termed x (start c) σ h q = skip_arg w (later c x) σ (a_blank h q no_blank)
  skip_termed x (later c y) σ h q = skip_shut w (relate c y x) σ (a_blank h q no_blank)

  no_shuts : (p : Spot) (b i : ℕ) → blank b ≡ true → shuts p b i ≡ []
  no_shuts (start c) b i h = refl
  no_shuts (later c y) b i h = rw (other blank b 41 h refl)

  name_blank : (x : List ℕ) (p : Spot) (σ : List Frame) {b i : ℕ} → reserved x ≡ false → blank b ≡ true → Byte w b i → onward w (name x p σ) i ≡ emits (named x (i - length x) i ∷ []) (onward w (termed (name_term x) p σ) i)
  unfolding step out
  name_blank x p σ {b} {i} r h q =
      goes w (name x p σ) (termed (name_term x) p σ) q (rw (blank_no_letter b h, other blank b 46 h refl, r, h)) (termed_alive (name_term x) p σ)
      ∙ rw (blank_no_letter b h, other blank b 46 h refl, no_shuts p b i h) (ap (emits (named x (i - length x) i ∷ [])) (sym (skip_termed (name_term x) p σ h q)))

  pub run_name : (x : List ℕ) (p : Spot) (σ : List Frame) (i : ℕ) → reserved x ≡ false → Behind w p i → onward w (name x p σ) i ≡ emits (named x (i - length x) i ∷ []) (onward w (termed (name_term x) p σ) i)
  unfolding step out emits
  run_name x (start c) σ i r h = name_blank x (start c) σ r h.1 h.2
  run_name x (later c y) σ i r (inl h) = name_blank x (later c y) σ r h.1 h.2
  run_name x (later c y) σ i r (inr q) =
      goes w (name x (later c y) σ) (past false (relate c y (name_term x)) σ) q (rw r) (past_alive false (relate c y (name_term x)) σ)
      ∙ ap (event (named x (i - length x) i)) (sym (goes w (shut (relate c y (name_term x)) σ) (past false (relate c y (name_term x)) σ) q refl (past_alive false (relate c y (name_term x)) σ)))

  pub run_nil : (p : Spot) (σ : List Frame) (i : ℕ) → Behind w p i → onward w (nil [] p σ) i ≡ onward w (termed nil_term p σ) i
  unfolding step out emits
  run_nil (start c) σ i h = goes_still w (nil [] (start c) σ) (termed nil_term (start c) σ) h.2 (rw h.1) (termed_alive nil_term (start c) σ) refl ∙ sym (skip_termed nil_term (start c) σ h.1 h.2)
  run_nil (later c y) σ i (inl h) =
      goes_still w (nil [] (later c y) σ) (termed nil_term (later c y) σ) h.2 (rw h.1) (termed_alive nil_term (later c y) σ) (no_shuts (later c y) h.0 i h.1)
      ∙ sym (skip_termed nil_term (later c y) σ h.1 h.2)
  run_nil (later c y) σ i (inr q) =
      goes w (nil [] (later c y) σ) (past false (relate c y nil_term) σ) q refl (past_alive false (relate c y nil_term) σ)
      ∙ sym (goes w (shut (relate c y nil_term) σ) (past false (relate c y nil_term) σ) q refl (past_alive false (relate c y nil_term) σ))

  -- the letters y carry the name x on
  carries : (p : Spot) (σ : List Frame) (x y : List ℕ) {i j : ℕ} → ((k : ℕ) → k < length y → letter (get_or y k 0) ≡ true) → length (x ++ y) ≤ longest → reserved (x ++ y) ≡ false → Spelt w y i j
      → onward w (name x p σ) i ≡ onward w (name (x ++ y) p σ) j
  unfolding step out alive
  carries p σ x [] {i} l h r no_more = ap (λ (z : List ℕ). onward w (name z p σ) i) (sym (append-nil x))
  carries p σ x (b ∷ y) {i} {j} l h r (one_more q k) =
      let z = x ++ (b ∷ []) in
      let join_up : z ++ y ≡ x ++ (b ∷ y) = append_assoc x (b ∷ []) y in
      let e : letter b ≡ true = l 0 (omega arith) in
      let can = can_go_on x b y h r in
      goes_still w (name x p σ) (name z p σ) q (rw (e, can)) refl (rw e)
      ∙ carries p σ z y (λ m t. l (suc m) (omega arith)) (rw join_up h) (rw join_up r) k
      ∙ ap (λ (u : List ℕ). onward w (name u p σ) j) join_up
    where
      can_go_on : (x : List ℕ) (b : ℕ) (y : List ℕ) → length (x ++ (b ∷ y)) ≤ longest → reserved (x ++ (b ∷ y)) ≡ false → viable (x ++ (b ∷ [])) ≡ true
      can_go_on x b [] h r = short (x ++ (b ∷ [])) h r
        where
          short : (z : List ℕ) → length z ≤ longest → reserved z ≡ false → viable z ≡ true
          short z h r = go (eqb (length z) longest) refl
            where
              go : (c : Bool) → eqb (length z) longest ≡ c → viable z ≡ true
              go true e = rw (eqb-true (length z) longest e, r)
              go false e = rw (lt-ltb (length z) longest (omega (arith, borrow.Author.Tests.eqb-false (length z) longest e)))
      can_go_on x b (a ∷ y) h r = rw (lt-ltb (length (x ++ (b ∷ []))) longest (omega (arith, length-append x (b ∷ []), length-append x (b ∷ a ∷ y))))

  spelt_long : {x : List ℕ} {i j : ℕ} → Spelt w x i j → i + length x ≡ j
  spelt_long {i = i} no_more = omega arith
  spelt_long (one_more q k) = omega (arith, spelt_long k)

  -- a term, with what is behind it
  pub run_term : (x : Term) (p : Spot) (σ : List Frame) {i j : ℕ} → Stands w x i j → Behind w p j → onward w (arg p σ) i ≡ emits (seen x i j) (onward w (termed x p σ) j)
  unfolding step out alive emits same_bytes
  run_term nil_term p σ {i} {j} (a_nil (one_more q (one_more r (one_more s (one_more t k))))) h =
      goes_still w (arg p σ) (name (115 ∷ []) p σ) q refl refl refl
      ∙ goes_still w (name (115 ∷ []) p σ) (name (115 ∷ 101 ∷ []) p σ) r refl refl refl
      ∙ goes_still w (name (115 ∷ 101 ∷ []) p σ) (name (115 ∷ 101 ∷ 112 ∷ []) p σ) s refl refl refl
      ∙ goes_still w (name (115 ∷ 101 ∷ 112 ∷ []) p σ) (nil (bytes "nil") p σ) t refl refl refl
      ∙ spells_nil p σ k ∙ run_nil p σ j h
  run_term (name_term []) p σ (a_name n k) h = absurd (omega (arith, n.some))
  run_term (name_term (b ∷ x)) p σ {i} {j} (a_name n (one_more q k)) h =
      let e : lower b ≡ true = n.first in
      let r : reserved (b ∷ x) ≡ false = none_among words (b ∷ x) n.free in
      let back : j - length (b ∷ x) ≡ i = omega (arith, spelt_long (one_more q k)) in
      goes_still w (arg p σ) (name (b ∷ []) p σ) q (rw (lower_no_blank b e, e)) refl refl
      ∙ carries p σ (b ∷ []) x (λ m t. n.letters (suc m) (omega arith)) n.short r k
      ∙ run_name (b ∷ x) p σ j r h
      ∙ ap (λ (m : ℕ). emits (named (b ∷ x) m j ∷ []) (onward w (termed (name_term (b ∷ x)) p σ) j)) back

  -- ---- a formula

  -- after the first formula of two
  between : (σ : List Frame) (c : Join) {d i j : ℕ} {F : Phrase} {es : List Event} → Reads w d F i j es → onward w (past (lettered F) F (first_of c ∷ σ)) j ≡ onward w (item (second_of c F ∷ σ)) j
  between σ c (an_emp k e) = run_gap (second_of c emp ∷ σ) e
  between σ c (a_join q r b s) = refl
  between σ c (a_denial q r) = refl
  between σ c (a_relation q s l b t) = refl

  gap_behind : {m n : ℕ} → Blanks w m n → m < n → (b : ℕ) × (blank b ≡ true) × Byte w b m
  gap_behind no_blank l = absurd (omega arith)
  gap_behind (a_blank {b = b} h q k) l = (b, h, q)

  close_behind : {l m : ℕ} → Blanks w l m → Byte w 41 m → ((b : ℕ) × (blank b ≡ true) × Byte w b l) ⊎ Byte w 41 l
  close_behind no_blank q = inr q
  close_behind (a_blank {b = b} h q k) r = inl (b, h, q)

  pub run_reads : (σ : List Frame) {d i j : ℕ} {F : Phrase} {es : List Event} → Reads w d F i j es → length σ ≡ d → onward w (item σ) i ≡ emits es (onward w (past (lettered F) F σ) j)
  unfolding step out alive emits
  run_reads σ (an_emp (one_more {x = x} q k) e) h = goes_still w (item σ) (empty 101 (bytes "p.emp") σ) q refl refl refl ∙ spells_emp σ _ _ k
  run_reads σ {d} {i} {j} (a_join {k = k} {l = l} {m = m} {c = c} {F = F} {G = G} {es = es} {fs = fs} q r b s) h =
      let last = finished (j - 1) (adds (joins c)) ∷ [] in
      let u : length (first_of c ∷ σ) ≡ suc d = omega arith in
      let v : length (second_of c F ∷ σ) ≡ suc d = omega arith in
      run_begin q σ h ∙ skip_item w (first_of c ∷ σ) q.between ∙ run_reads (first_of c ∷ σ) r u
      ∙ ap (emits es) (between σ c r ∙ skip_item w (second_of c F ∷ σ) b ∙ run_reads (second_of c F ∷ σ) s v ∙ ap (emits fs) (run_end q σ (join c F G)))
      ∙ ap (emits es) (emits_emits fs last (onward w (past false (join c F G) σ) j))
      ∙ emits_emits es (fs ++ last) (onward w (past false (join c F G) σ) j)
  run_reads σ {d} {i} {j} (a_denial {k = k} {l = l} {F = F} {es = es} q r) h =
      let last = finished (j - 1) (adds denies) ∷ [] in
      let u : length (only_one ∷ σ) ≡ suc d = omega arith in
      run_begin q σ h ∙ skip_item w (only_one ∷ σ) q.between ∙ run_reads (only_one ∷ σ) r u
      ∙ ap (emits es) (run_end q σ (deny F))
      ∙ emits_emits es last (onward w (past false (deny F) σ) j)
  run_reads σ {d} {i} {j} (a_relation {k = k} {l = l} {m = m} {n = n} {c = c} {x = x} {y = y} q s g b t) h =
      let last = finished (j - 1) (adds (relates c)) ∷ [] in
      run_begin q σ h ∙ skip_arg w (start c) σ q.between ∙ run_term x (start c) σ s (gap_behind b g)
      ∙ ap (emits (seen x k m)) (skip_arg w (later c x) σ b ∙ run_term y (later c x) σ t (close_behind q.after q.closes) ∙ ap (emits (seen y n l)) (run_end q σ (relate c x y)))
      ∙ ap (emits (seen x k m)) (emits_emits (seen y n l) last (onward w (past false (relate c x y) σ) j))
      ∙ emits_emits (seen x k m) (seen y n l ++ last) (onward w (past false (relate c x y) σ) j)

  pub run_means : {F : Phrase} {es : List Event} → Means w F es → run (item []) 0 w ≡ emits es (read F)
  unfolding ending
  run_means {F} {es} m = skip_item w [] m.before ∙ run_reads [] m.body refl ∙ ap (emits es) (skip_over w F m.after ∙ ended w (over F))

-- ---- the reading is unique

pub one_meaning : (w : List ℕ) (F G : Phrase) (es fs : List Event) → Means w F es → Means w G fs → (F ≡ G) × (es ≡ fs)
one_meaning w F G es fs m n =
    let q = sym (run_means w m) ∙ run_means w n in
    let a = emitted es F in
    let b = emitted fs G in
    (sym a.1 ∙ ap phrase_of_trace q ∙ b.1, sym a.0 ∙ ap events_of q ∙ b.0)
