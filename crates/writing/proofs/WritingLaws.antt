-- What is written is read again. Assumes nothing.
use Rattle.std.specs.Prelude.{◌≡◌, refl, true, false, List, [], ◌∷◌, ◌++◌, ℕ, suc, ◌+◌, ◌≤◌, ◌<◌, length}
use Rattle.std.proofs.Common.{sym, ap, ◌∙◌, subst, append-nil, append_assoc, arith, le-leb, eq-eqb}
use Prim.Native.Char.{code}
use Rattle.logic.proofs.Reflect.{is_and, is_self}
use Rattle.logic.specs.Tests.{same_bytes}
use Rattle.grammar.specs.Phrase.{bytes, Join, Atom, Word, joins, denies, relates, Term, nil_term, name_term, Phrase, emp, join, deny, relate, spelling}
use Rattle.grammar.specs.Phrase.Join.{and_word, or_word, sep_word, wand_word}
use Rattle.grammar.specs.Phrase.Atom.{equal_word, distinct_word, pto_word, ls_word}
use Rattle.grammar.specs.Grammar.{Event, deepest, Means}
use Rattle.grammar.specs.Machine.{Frame, only_one, first_of, second_of, Spot, start, later, Mode, item, gap, empty, head, word, arg, name, nil, shut, among, past, begun, step, read, emits, ending as ending_in, alive, run}
use Rattle.grammar.specs.Traces.{phrase_of_trace, events_of, whole}
use Rattle.grammar.proofs.Traces.{emitted, whole_emits}
use Rattle.grammar.specs.Steps.{waits}
use Rattle.grammar.proofs.Steps.{past_alive}
use Rattle.grammar.specs.Forward.{lettered}
use Rattle.grammar.proofs.Back.{means_run}
use Rattle.grammar.specs.Halts.{after, during, lives}
use Rattle.grammar.proofs.Halts.{run_over}
use Rattle.writing.specs.Writing.{term_text, ending, list, pair, write, depth_of}
use Rattle.writing.specs.WritingLaws.{Walks, Plain, name_plain, nil_plain, EachTerm}

stay : (m : Mode) → Walks m [] m
unfolding after lives
stay m = record { to = refl; alive_on = refl }

-- one byte, and then the bytes x
by : (m k n : Mode) (b : ℕ) (x : List ℕ) → step m b ≡ k → alive k ≡ true → Walks k x n → Walks m (b ∷ x) n
unfolding after lives
by m k n b x e a w = record { to = ap (λ (z : Mode). after z x) e ∙ w.to; alive_on = rw (e, a) w.alive_on }

after_append : (m : Mode) (x y : List ℕ) → after m (x ++ y) ≡ after (after m x) y
unfolding after
after_append m [] y = refl
after_append m (b ∷ x) y = after_append (step m b) x y

lives_append : (m : Mode) (x y : List ℕ) → lives m x ≡ true → lives (after m x) y ≡ true → lives m (x ++ y) ≡ true
unfolding after lives
lives_append m [] y p q = q
lives_append m (b ∷ x) y p q =
    let r = (is_and (alive (step m b)) (lives (step m b) x) (is_self (alive (step m b))) (is_self (lives (step m b) x))).to p in
    rw r.0 (lives_append (step m b) x y r.1 q)

along : (m k n : Mode) (x y : List ℕ) → Walks m x k → Walks k y n → Walks m (x ++ y) n
along m k n x y p q =
    record {
      to = after_append m x y ∙ ap (λ (z : Mode). after z y) p.to ∙ q.to;
      alive_on = lives_append m x y p.alive_on (ap (λ (z : Mode). lives z y) p.to ∙ q.alive_on);
    }

-- ---- a list's word, and its brackets

letters : (c : Word) (σ : List Frame) (x : List ℕ) → Walks (word c x σ) x (word c [] σ)
unfolding step alive
letters c σ [] = stay (word c [] σ)
letters c σ (b ∷ x) = by (word c (b ∷ x) σ) (word c x σ) (word c [] σ) b x (rw (eq-eqb b b refl)) refl (letters c σ x)

pub spoken_word : (c : Word) (σ : List Frame) → Walks (head σ) (spelling c) (word c [] σ)
unfolding step begun alive
spoken_word (joins and_word) σ = by (head σ) (word _ _ σ) _ _ _ refl refl (letters (joins and_word) σ _)
spoken_word (joins or_word) σ = by (head σ) (word _ _ σ) _ _ _ refl refl (letters (joins or_word) σ _)
spoken_word (joins sep_word) σ = by (head σ) (word _ _ σ) _ _ _ refl refl (letters (joins sep_word) σ _)
spoken_word (joins wand_word) σ = by (head σ) (word _ _ σ) _ _ _ refl refl (letters (joins wand_word) σ _)
spoken_word denies σ = by (head σ) (word _ _ σ) _ _ _ refl refl (letters denies σ _)
spoken_word (relates equal_word) σ = by (head σ) (word _ _ σ) _ _ _ refl refl (letters (relates equal_word) σ _)
spoken_word (relates distinct_word) σ = by (head σ) (word _ _ σ) _ _ _ refl refl (letters (relates distinct_word) σ _)
spoken_word (relates pto_word) σ = by (head σ) (word _ _ σ) _ _ _ refl refl (letters (relates pto_word) σ _)
spoken_word (relates ls_word) σ = by (head σ) (word _ _ σ) _ _ _ refl refl (letters (relates ls_word) σ _)

pub space : (c : Word) (σ : List Frame) → Walks (word c [] σ) (code " " ∷ []) (waits c σ)
unfolding step alive
space (joins c) σ = by (word (joins c) [] σ) (item (first_of c ∷ σ)) _ (code " ") [] refl refl (stay (item (first_of c ∷ σ)))
space denies σ = by (word denies [] σ) (item (only_one ∷ σ)) _ (code " ") [] refl refl (stay (item (only_one ∷ σ)))
space (relates c) σ = by (word (relates c) [] σ) (arg (start c) σ) _ (code " ") [] refl refl (stay (arg (start c) σ))

-- a list around what leads from behind the word's space over the closing bracket
in_list : (c : Word) (σ : List Frame) (x : List ℕ) (n : Mode) → length σ < deepest → Walks (waits c σ) (x ++ ending) n → Walks (item σ) (list c x) n
unfolding step alive
in_list c σ x n l w =
    by (item σ) (head σ) n (code "(") _ (rw (le-leb (suc (length σ)) deepest l)) refl
    (along (head σ) (word c [] σ) n (spelling c) (code " " ∷ (x ++ ending)) (spoken_word c σ)
    (along (word c [] σ) (waits c σ) n (code " " ∷ []) (x ++ ending) (space c σ) w))

closed : (F : Phrase) (σ : List Frame) → Walks (shut F σ) ending (past false F σ)
unfolding step alive
closed F σ = by (shut F σ) (past false F σ) (past false F σ) (code ")") [] refl (past_alive false F σ) (stay (past false F σ))

-- behind its letters
abbrev said : Term → Spot → List Frame → Mode
said nil_term p σ = nil [] p σ
said (name_term x) p σ = name x p σ

nil_letters : (x : List ℕ) (p : Spot) (σ : List Frame) → Walks (nil x p σ) x (nil [] p σ)
unfolding step alive
nil_letters [] p σ = stay (nil [] p σ)
nil_letters (b ∷ x) p σ = by (nil (b ∷ x) p σ) (nil x p σ) (nil [] p σ) b x (rw (eq-eqb b b refl)) refl (nil_letters x p σ)

term_letters : (x : Term) (p : Spot) (σ : List Frame) → Plain x → Walks (arg p σ) (term_text x) (said x p σ)
unfolding step alive same_bytes among
term_letters x p σ nil_plain =
    by _ (name (bytes "s") p σ) _ _ _ refl refl
    (by _ (name (bytes "se") p σ) _ _ _ refl refl
    (by _ (name (bytes "sep") p σ) _ _ _ refl refl
    (by _ (nil (bytes "nil") p σ) _ _ _ refl refl (nil_letters (bytes "nil") p σ))))
term_letters x p σ (name_plain {d = d} h) =
    by _ (name (bytes "v") p σ) _ _ _ refl refl
    (by _ (name (code "v" ∷ d ∷ []) p σ) _ d _ (rw h) refl (stay (name (code "v" ∷ d ∷ []) p σ)))

-- a space behind the first, and the list's end behind the second
term_space : (c : Atom) (x : Term) (σ : List Frame) → Plain x → Walks (said x (start c) σ) (code " " ∷ []) (arg (later c x) σ)
unfolding step alive same_bytes among
term_space c x σ nil_plain = by _ (arg (later c nil_term) σ) _ _ _ refl refl (stay (arg (later c nil_term) σ))
term_space c x σ (name_plain {d = d} h) = let m = arg (later c (name_term (code "v" ∷ d ∷ []))) σ in by _ m _ _ _ refl refl (stay m)

term_ended : (c : Atom) (x y : Term) (σ : List Frame) → Plain y → Walks (said y (later c x) σ) ending (past false (relate c x y) σ)
unfolding step alive same_bytes among
term_ended c x y σ nil_plain = let F = relate c x nil_term in by _ (past false F σ) _ _ _ refl (past_alive false F σ) (stay (past false F σ))
term_ended c x y σ (name_plain {d = d} h) = let F = relate c x (name_term (code "v" ∷ d ∷ [])) in by _ (past false F σ) _ _ _ refl (past_alive false F σ) (stay (past false F σ))

-- a space between two formulas
pub between : (c : Join) (F : Phrase) (σ : List Frame) → Walks (past (lettered F) F (first_of c ∷ σ)) (code " " ∷ []) (item (second_of c F ∷ σ))
unfolding step alive
between c emp σ = by (gap (second_of c emp ∷ σ)) (item (second_of c emp ∷ σ)) _ _ [] refl refl (stay _)
between c (join d F G) σ = by (item (second_of c (join d F G) ∷ σ)) (item (second_of c (join d F G) ∷ σ)) _ _ [] refl refl (stay _)
between c (deny F) σ = by (item (second_of c (deny F) ∷ σ)) (item (second_of c (deny F) ∷ σ)) _ _ [] refl refl (stay _)
between c (relate d x y) σ = by (item (second_of c (relate d x y) ∷ σ)) (item (second_of c (relate d x y) ∷ σ)) _ _ [] refl refl (stay _)

emp_letters : (b : ℕ) (x : List ℕ) (σ : List Frame) → Walks (empty b x σ) (b ∷ x) (past true emp σ)
unfolding step alive
emp_letters b [] σ = by (empty b [] σ) (past true emp σ) (past true emp σ) b [] (rw (eq-eqb b b refl)) (past_alive true emp σ) (stay (past true emp σ))
emp_letters b (d ∷ x) σ = by (empty b (d ∷ x) σ) (empty d x σ) (past true emp σ) b (d ∷ x) (rw (eq-eqb b b refl)) refl (emp_letters d x σ)

pub walks : (F : Phrase) (σ : List Frame) → EachTerm Plain F → length σ + depth_of F ≤ deepest → Walks (item σ) (write F) (past (lettered F) F σ)
unfolding write depth_of EachTerm step alive
walks emp σ p l = by (item σ) (empty (code "e") (bytes "p.emp") σ) _ _ _ refl refl (emp_letters (code "e") (bytes "p.emp") σ)
walks (join c F G) σ p l =
    let a : length (first_of c ∷ σ) + depth_of F ≤ deepest = omega arith in
    let b : length (second_of c F ∷ σ) + depth_of G ≤ deepest = omega arith in
    in_list (joins c) σ (pair (write F) (write G)) _ (omega arith)
    (subst (λ (z : List ℕ). Walks (item (first_of c ∷ σ)) z (past false (join c F G) σ)) (sym (append_assoc (write F) (code " " ∷ write G) ending))
    (along _ _ _ (write F) (code " " ∷ (write G ++ ending)) (walks F (first_of c ∷ σ) p.0 a)
    (along _ _ _ (code " " ∷ []) (write G ++ ending) (between c F σ)
    (along _ _ _ (write G) ending (walks G (second_of c F ∷ σ) p.1 b) (closed (join c F G) σ)))))
walks (deny F) σ p l =
    let a : length (only_one ∷ σ) + depth_of F ≤ deepest = omega arith in
    in_list denies σ (write F) _ (omega arith) (along _ _ _ (write F) ending (walks F (only_one ∷ σ) p a) (closed (deny F) σ))
walks (relate c x y) σ p l =
    in_list (relates c) σ (pair (term_text x) (term_text y)) _ (omega arith)
    (subst (λ (z : List ℕ). Walks (arg (start c) σ) z (past false (relate c x y) σ)) (sym (append_assoc (term_text x) (code " " ∷ term_text y) ending))
    (along _ _ _ (term_text x) (code " " ∷ (term_text y ++ ending)) (term_letters x (start c) σ p.0)
    (along _ _ _ (code " " ∷ []) (term_text y ++ ending) (term_space c x σ p.0)
    (along _ _ _ (term_text y) ending (term_letters y (later c x) σ p.1) (term_ended c x y σ p.1)))))

-- the text of a phrase means it
pub write_means : (F : Phrase) → EachTerm Plain F → depth_of F ≤ deepest → (es : List Event) × Means (write F) F es
unfolding run ending_in whole phrase_of_trace
write_means F p l =
    let w = walks F [] p (omega arith) in
    let es = during (item []) 0 (write F) in
    let t : run (item []) 0 (write F) ≡ emits es (read F) =
    ap (run (item []) 0) (sym (append-nil (write F))) ∙ run_over (item []) 0 (write F) [] w.alive_on ∙ ap (λ (m : Mode). emits es (ending_in m (0 + length (write F)))) w.to in
    let h : whole (run (item []) 0 (write F)) ≡ true = ap whole t ∙ whole_emits es (read F) in (
      events_of (run (item []) 0 (write F)),
      subst (λ (G : Phrase). Means (write F) G (events_of (run (item []) 0 (write F)))) (ap phrase_of_trace t ∙ (emitted es F).1) (means_run (write F) h),
    )
