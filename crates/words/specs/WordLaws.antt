-- What is read of a text byte by byte is what the machine does with it. Assumes nothing.
use Rattle.std.specs.Prelude.{◌≡◌, Bool, false, not, ℕ, suc, ◌+◌, ◌-◌, ◌≤◌, ◌<◌, None, Some, Result, Ok, Err, eqb, leb, get_or, take, drop}
use Rattle.std.proofs.Math.Path.{refl, sym}
use Rattle.std.proofs.Math.Seq.{take-length}
use Rattle.std.proofs.Common.{ap, ◌∙◌, subst, ⊎_elim, eq-or-lt_of_le, add-one, arith, drop_of_length-le, length-drop, drop-cons}
use Rattle.std.proofs.Math.Bool.{true}
use mathlib.Core.List.{List, [], ◌∷◌}
use Rattle.std.proofs.Math.ListN.{length}
use borrow.Author.Tests.{eq-eqb, ne_eqb, leb-true, lt-leb}
use Rattle.grammar.specs.Steps.{waits}
use Rattle.grammar.specs.Steps.{onward}
use Rattle.grammar.proofs.Steps.{looks, goes_still, skip_head, skip_shut}
use Rattle.logic.specs.Tests.{andb, orb, same_bytes}
use Rattle.logic.specs.Reflect.{Is}
use Rattle.logic.proofs.Reflect.{is_same_bytes, is_and, is_self, false_true}
use Rattle.logic.proofs.Entries.{every, entry_of}
use Rattle.grammar.specs.Phrase.{bytes, Word, joins, denies, relates, Phrase, emp, join, deny, spelling, sep_emp}
use Rattle.grammar.specs.Phrase.Join.{and_word, or_word, sep_word, wand_word}
use Rattle.grammar.specs.Phrase.Atom.{equal_word, distinct_word, pto_word, ls_word}
use Rattle.grammar.specs.Grammar.{finished, blank, Byte, Spelt, Blanks, Edge}
use Rattle.grammar.specs.Grammar.Spelt.{no_more, one_more}
use Rattle.grammar.specs.Grammar.Blanks.{a_blank}
use Rattle.grammar.specs.Grammar.Edge.{at_end, at_blank, at_open, at_close}
use Rattle.grammar.specs.Machine.{words, Frame, only_one, first_of, second_of, item, gap, empty, head, word, shut, begun, past, own, step, out, bad, emits, alive, ending, over}
use Rattle.grammar.proofs.Forward.{spells, spells_emp, run_edge, run_gap, run_close}
use Rattle.words.specs.declared.BadText.{BadText}
use Rattle.words.specs.declared.ListWord.{ListWord as Said}
use Rattle.words.specs.Words.{word_of, spellings, Begins, Skipped, here, later, SpelledIs, FreeItem, EmpIs}
use Rattle.words.specs.Stops.{stops, other_byte, word_misses, emp_misses}

-- ---- blanks

pub space : (b : ℕ) → b ≡ 32 → true ≡ blank b
space b e = rw e

pub line_feed : (b : ℕ) → b ≡ 10 → true ≡ blank b
line_feed b e = rw e

pub no_blank_byte : (b : ℕ) → ¬ (b ≡ 32) → ¬ (b ≡ 10) → false ≡ blank b
no_blank_byte b f g = rw (ne_eqb b 32 f, ne_eqb b 10 g)

-- ---- the letters of the words

-- at most eight bytes, and none is 0
pub record Lettered (x : List ℕ) : Type 0 where
  pub short : length x ≤ 8
  pub some : (k : ℕ) → k < length x → ¬ (get_or x k 0 ≡ 0)

nonzero : ℕ → ℕ → Bool
nonzero k b = not (eqb b 0)

lettered : ℕ → List ℕ → Bool
lettered i x = andb (leb (length x) 8) (every nonzero 0 x)

all_lettered : every lettered 0 spellings ≡ true
unfolding every lettered nonzero
all_lettered = refl

pub spellings_lettered : (i : ℕ) → i < 11 → Lettered (get_or spellings i [])
unfolding lettered nonzero
spellings_lettered i l =
    let x = get_or spellings i [] in
    let q = (is_and (leb (length x) 8) (every nonzero 0 x) (is_self (leb (length x) 8)) (is_self (every nonzero 0 x))).to (entry_of [] lettered spellings all_lettered i l) in
    record {
      short = leb-true (length x) 8 q.0;
      some = λ k h e. let z : not (eqb (get_or x k 0) 0) ≡ true = entry_of 0 nonzero x q.1 k h in false_true (rw (eq-eqb (get_or x k 0) 0 e) at z);
    }

-- the first nine are the words by their numbers
named : ℕ → List ℕ → Bool
named n x = orb (leb 9 n) (same_bytes x (spelling (get_or words n denies)))

all_are_named : every named 0 spellings ≡ true
unfolding every named same_bytes
all_are_named = refl

pub spelling_of : (n : ℕ) → n < 9 → get_or spellings n [] ≡ spelling (get_or words n denies)
unfolding named
spelling_of n l = (is_same_bytes (get_or spellings n []) (spelling (get_or words n denies))).to (rw (lt-leb 9 n l) at (entry_of [] named spellings all_are_named n (omega arith)))

module _ (s x : List ℕ) where
  -- behind the last letter
  pub spelled_end : (j e : ℕ) → length x ≤ j → e ≤ length s → SpelledIs s (drop j x) e (Ok e)
  spelled_end j e h l = subst (λ (y : List ℕ). SpelledIs s y e (Ok e)) (sym (drop_of_length-le x h)) (no_more, omega arith, l)

  -- letter j of the word does not stand at e
  pub spelled_miss : (j e : ℕ) → j < length x → ¬ Byte s (get_or x j 0) e → e ≤ length s → SpelledIs s (drop j x) e (Err (record { at = e }))
  spelled_miss j e h f l = subst (λ (y : List ℕ). SpelledIs s y e (Err (record { at = e }))) (sym (drop-cons x j 0 h)) (here f, l)

  -- and if it does, the next letter is asked for
  pub spelled_step : (j e : ℕ) (r : Result ℕ BadText) → j < length x → Byte s (get_or x j 0) e → SpelledIs s (drop (j + 1) x) (e + 1) r → SpelledIs s (drop j x) e r
  spelled_step j e r h q k =
      subst (λ (y : List ℕ). SpelledIs s y e r) (sym (drop-cons x j 0 h))
      (more r (subst (λ (m : ℕ). SpelledIs s (drop m x) (suc e) r) (add-one j) (subst (λ (m : ℕ). SpelledIs s (drop (j + 1) x) m r) (add-one e) k)))
    where
      more : (r : Result ℕ BadText) → SpelledIs s (drop (suc j) x) (suc e) r → SpelledIs s (get_or x j 0 ∷ drop (suc j) x) e r
      more (Ok m) (k, lo, hi) = (one_more q k, omega arith, hi)
      more (Err p) (k, hi) = (later q k, hi)

-- the letters behind the first, as the code takes them
pub spelled_rest : (s y x : List ℕ) (i : ℕ) (r : Result ℕ BadText) → y ≡ x → SpelledIs s (take (length y - 1) (drop 1 y)) i r → SpelledIs s (drop 1 x) i r
spelled_rest s y x i r e k = subst (λ (z : List ℕ). SpelledIs s (drop 1 z) i r) e (subst (λ (z : List ℕ). SpelledIs s z i r) (ap (λ (n : ℕ). take n (drop 1 y)) (sym (length-drop 1 y)) ∙ take-length (drop 1 y)) k)

module _ (s : List ℕ) where
  pub blank_first : (i j : ℕ) → blank (get_or s i 0) ≡ true → i < length s → Blanks s (i + 1) j → Blanks s i j
  blank_first i j h l k = a_blank h (l, refl) (subst (λ (m : ℕ). Blanks s m j) (add-one i) k)

  -- no byte stands at the text's end
  pub no_byte : (b i : ℕ) → length s ≤ i → ¬ Byte s b i
  no_byte b i l q = omega (arith, q.0)

  -- ---- edges

  -- bytes 40 and 41 are the brackets
  pub edge_bracket : (i : ℕ) → i < length s → 40 ≤ get_or s i 0 → get_or s i 0 < 42 → Is true (Edge s i)
  edge_bracket i l f g = record { to = λ e. ⊎_elim (λ q. at_open (l, sym q)) (λ q. at_close (l, omega arith)) (eq-or-lt_of_le f); from = λ e. refl }

  pub edge_else : (i : ℕ) (t : Bool) → i < length s → ¬ (get_or s i 0 ≡ 40) → ¬ (get_or s i 0 ≡ 41) → t ≡ blank (get_or s i 0) → Is t (Edge s i)
  edge_else i t l f g e = record { to = λ h. at_blank (sym e ∙ h) (l, refl); from = λ h. e ∙ from i h l f g }
    where
      from : (i : ℕ) → Edge s i → i < length s → ¬ (get_or s i 0 ≡ 40) → ¬ (get_or s i 0 ≡ 41) → blank (get_or s i 0) ≡ true
      from i at_end l f g = absurd (omega arith)
      from i (at_blank {b = b} h q) l f g = subst (λ (c : ℕ). blank c ≡ true) (sym q.1) h
      from i (at_open q) l f g = absurd (f q.1)
      from i (at_close q) l f g = absurd (g q.1)

  -- a byte behind which nothing ends
  record Joined (b : ℕ) : Type 0 where
    blank_not : blank b ≡ false
    open_not : eqb b 40 ≡ false
    close_not : eqb b 41 ≡ false

  joined : (b i : ℕ) → ¬ Edge s i → Byte s b i → Joined b
  joined b i f q = record { blank_not = go (blank b) refl; open_not = ne_eqb b 40 (λ e. f (at_open (q.0, q.1 ∙ e))); close_not = ne_eqb b 41 (λ e. f (at_close (q.0, q.1 ∙ e))) }
    where
      go : (c : Bool) → blank b ≡ c → c ≡ false
      go true e = absurd (f (at_blank e q))
      go false e = refl

  inner : (i : ℕ) → ¬ Edge s i → i ≤ length s → i < length s
  inner i f l = ⊎_elim (λ (e : i ≡ length s). absurd (f (subst (λ (m : ℕ). Edge s m) (sym e) at_end))) (λ h. h) (eq-or-lt_of_le l)

  -- no word, and no `sep.emp`, ends before i
  pub word_no_edge : (c : Word) (σ : List Frame) (i : ℕ) → ¬ Edge s i → i ≤ length s → onward s (word c [] σ) i ≡ bad i
  unfolding step alive ending
  word_no_edge (joins c) σ i f l = stops s (word (joins c) [] σ) i l (λ b q. let j = joined b i f q in rw (j.blank_not, j.open_not)) (λ j. refl)
  word_no_edge denies σ i f l = stops s (word denies [] σ) i l (λ b q. let j = joined b i f q in rw (j.blank_not, j.open_not)) (λ j. refl)
  word_no_edge (relates c) σ i f l = stops s (word (relates c) [] σ) i l (λ b q. let j = joined b i f q in rw j.blank_not) (λ j. refl)

  pub emp_no_edge : (σ : List Frame) (i : ℕ) → ¬ Edge s i → i ≤ length s → onward s (past true emp σ) i ≡ bad i
  unfolding step alive ending
  emp_no_edge σ i f l = let h = inner i f l in go σ h (joined (get_or s i 0) i f (h, refl))
    where
      go : (σ : List Frame) → i < length s → Joined (get_or s i 0) → onward s (past true emp σ) i ≡ bad i
      go [] h j = looks s (over emp) (h, refl) ∙ rw j.blank_not
      go (only_one ∷ σ) h j = looks s (shut (deny emp) σ) (h, refl) ∙ rw (j.blank_not, j.close_not)
      go (first_of c ∷ σ) h j = looks s (gap (second_of c emp ∷ σ)) (h, refl) ∙ rw (j.blank_not, j.open_not)
      go (second_of c G ∷ σ) h j = looks s (shut (join c G emp) σ) (h, refl) ∙ rw (j.blank_not, j.close_not)

  -- where one does, what comes after it comes as after a bracket
  pub emp_edge : (σ : List Frame) (i : ℕ) → Edge s i → onward s (past true emp σ) i ≡ onward s (past false emp σ) i
  emp_edge [] i e = refl
  emp_edge (only_one ∷ σ) i e = refl
  emp_edge (first_of c ∷ σ) i e = run_gap s (second_of c emp ∷ σ) e
  emp_edge (second_of c G ∷ σ) i e = refl

  -- ---- closing brackets

  pub shut_misses : (i j : ℕ) → Skipped s i j → ¬ Byte s 41 j → (F : Phrase) (σ : List Frame) → onward s (shut F σ) i ≡ bad j
  unfolding step alive ending
  shut_misses i j k f F σ = skip_shut s F σ k.blanks ∙ stops s (shut F σ) j k.inside (λ b q. rw (k.next b q, other_byte s b 41 j f q)) (λ m. refl)

  pub shut_is : (i j : ℕ) → Skipped s i j → Byte s 41 j → (F : Phrase) (σ : List Frame) → onward s (shut F σ) i ≡ emits (finished (j + 1 - 1) (own F) ∷ []) (onward s (past false F σ) (j + 1))
  shut_is i j k q F σ = skip_shut s F σ k.blanks ∙ run_close s F σ q (sym (add-one j))

  -- ---- words

  -- no word begins at j
  pub no_word_end : (i j : ℕ) → Skipped s i j → length s ≤ j → (σ : List Frame) → onward s (head σ) i ≡ bad j
  unfolding ending
  no_word_end i j k l σ = skip_head s σ k.blanks ∙ stops s (head σ) j k.inside (λ b q. absurd (no_byte b j l q)) (λ m. refl)

  pub no_word : (i j : ℕ) → Skipped s i j → Begins (get_or s j 0) None → (σ : List Frame) → onward s (head σ) i ≡ bad j
  unfolding step alive ending
  no_word i j k h σ = skip_head s σ k.blanks ∙ stops s (head σ) j k.inside (λ b q. rw (k.next b q, sym q.1, h σ)) (λ m. refl)

  -- behind the first letter of the word w
  word_begins : (i j : ℕ) (w : Said) → Skipped s i j → j < length s → Begins (get_or s j 0) (Some w) → (σ : List Frame) → onward s (head σ) i ≡ onward s (word (word_of w) (drop 1 (spelling (word_of w))) σ) (suc j)
  unfolding step out alive
  word_begins i j w k l h σ =
      skip_head s σ k.blanks
      ∙ goes_still s (head σ) (word (word_of w) (drop 1 (spelling (word_of w))) σ) (l, refl) (rw (k.next (get_or s j 0) (l, refl), h σ)) refl refl

  module _ (i j : ℕ) (w : Said) (k : Skipped s i j) (l : j < length s) (h : Begins (get_or s j 0) (Some w)) where
    rest : (r : Result ℕ BadText) → SpelledIs s (drop 1 (spelling (word_of w))) (j + 1) r → SpelledIs s (drop 1 (spelling (word_of w))) (suc j) r
    rest r q = subst (λ (a : ℕ). SpelledIs s (drop 1 (spelling (word_of w))) a r) (add-one j) q

    pub word_found : (e : ℕ) → SpelledIs s (drop 1 (spelling (word_of w))) (j + 1) (Ok e) → Edge s e → (σ : List Frame) → onward s (head σ) i ≡ onward s (waits (word_of w) σ) e
    word_found e q d σ = word_begins i j w k l h σ ∙ spells s (word_of w) σ (rest (Ok e) q).0 ∙ run_edge s (word_of w) σ d

    pub word_unended : (e : ℕ) → SpelledIs s (drop 1 (spelling (word_of w))) (j + 1) (Ok e) → ¬ Edge s e → (σ : List Frame) → onward s (head σ) i ≡ bad e
    word_unended e q f σ = word_begins i j w k l h σ ∙ spells s (word_of w) σ (rest (Ok e) q).0 ∙ word_no_edge (word_of w) σ e f q.2

    pub word_missed : (p : BadText) → SpelledIs s (drop 1 (spelling (word_of w))) (j + 1) (Err p) → (σ : List Frame) → onward s (head σ) i ≡ bad p.at
    word_missed p q σ = word_begins i j w k l h σ ∙ word_misses s (word_of w) σ (rest (Err p) q).0 q.1

  -- ---- `sep.emp`

  spelt_from : {x : List ℕ} {i j : ℕ} → Spelt s x i j → i ≤ j
  spelt_from {i = i} no_more = omega arith
  spelt_from (one_more q k) = omega (arith, spelt_from k)

  emp_here : (σ : List Frame) {i : ℕ} → Byte s 115 i → onward s (item σ) i ≡ onward s (empty 101 (bytes "p.emp") σ) (suc i)
  unfolding step out alive
  emp_here σ q = goes_still s (item σ) (empty 101 (bytes "p.emp") σ) q refl refl refl

  no_emp : (σ : List Frame) (i : ℕ) → FreeItem s i → i ≤ length s → ¬ Byte s 115 i → onward s (item σ) i ≡ bad i
  unfolding step alive ending
  no_emp σ i f l g = stops s (item σ) i l (λ b q. rw ((f b q).0, ne_eqb b 40 (f b q).1, other_byte s b 115 i g q)) (λ m. refl)

  pub emp_is : (i : ℕ) → FreeItem s i → i ≤ length s → (r : Result ℕ BadText) → SpelledIs s sep_emp i r → EmpIs s i r
  emp_is i f l (Ok j) (one_more q k, lo, hi) = (omega (arith, spelt_from k), hi, λ σ. emp_here σ q ∙ spells_emp s σ 101 (bytes "p.emp") k)
  emp_is i f l (Err p) (here g, hi) = λ σ. no_emp σ i f l g
  emp_is i f l (Err p) (later q k, hi) = λ σ. emp_here σ q ∙ emp_misses s σ 101 (bytes "p.emp") k hi

-- ---- the first letters

-- b is none of the nine
pub no_first : (b : ℕ) → ((c : Word) → ¬ (b ≡ get_or (spelling c) 0 0)) → Begins b None
unfolding begun
no_first b f σ =
    rw (
      ne_eqb b 97 (f (joins and_word)),
      ne_eqb b 111 (f (joins or_word)),
      ne_eqb b 115 (f (joins sep_word)),
      ne_eqb b 119 (f (joins wand_word)),
      ne_eqb b 110 (f denies),
      ne_eqb b 61 (f (relates equal_word)),
      ne_eqb b 100 (f (relates distinct_word)),
      ne_eqb b 112 (f (relates pto_word)),
      ne_eqb b 108 (f (relates ls_word)),
    )
