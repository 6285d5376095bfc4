-- What the reader's statements give: the stretch of a body lies in the book, one answer at most, and what an accepted book is.
-- Assumes nothing.
use Rattle.std.specs.Prelude.{◌≡◌, ℕ, zero, suc, ◌+◌, ◌-◌, ◌*◌, ◌≤◌, length, get_or, take, drop}
use Rattle.std.proofs.Common.{sym, ◌∙◌, ap₂, subst₂, ⊎_elim, arith, length-take, length-drop}
use mathlib.Core.List.{List}
use Rattle.logic.specs.declared.Answer.{Answer}
use Rattle.logic.specs.Numbers.{answer}
use Rattle.logic.specs.Checks.{Checks, ◌then◌, upto, Passes, Answers}
use Rattle.logic.specs.CheckLaws.{Single, Yes, Refuses}
use Rattle.logic.proofs.CheckLaws.{answers_single, yes_single, answers_zero, passes_of_yes, fails_of_refused, answers_split, then_passes, passes_at, answers_refused, answers_after, refuses_then, refuses_upto}
use Rattle.logic.specs.Table.{Sound}
use Rattle.logic.specs.Book.{most_nodes, offset, size, start_of, EndOk, stretch, LaidOut, Given, vars_of, formula_of, nodes, root, contents_checks, body_checks, node_checks, use_checks, table_checks, book_checks, Reads, Accepted, Whole, Body, Placed}

-- two answers that the reader's statement allows are equal, and so are two bodies and two places
pub reads_single : (s : List ℕ) → Single (Reads s)
unfolding Reads
reads_single s = answers_single (book_checks s) Yes yes_single

pub body_single : (s : List ℕ) (e : ℕ) (a b : List ℕ) → Body s e a → Body s e b → a ≡ b
unfolding Body
body_single s e a b p q =
    ⊎_elim (λ x. ⊎_elim (λ y. x.1 ∙ sym y.1) (λ y. absurd (y.0 x.0)) q)
    (λ x. ⊎_elim (λ y. absurd (x.0 y.0)) (λ y. x.1 ∙ sym y.1) q) p

pub placed_single : (s : List ℕ) (e a i b j : ℕ) → Placed s e a i → Placed s e b j → (a ≡ b) × (i ≡ j)
unfolding Placed
placed_single s e a i b j p q =
    ⊎_elim (λ x. ⊎_elim (λ y. (x.1.0 ∙ sym y.1.0, x.1.1 ∙ sym y.1.1)) (λ y. absurd (y.0 x.0)) q)
    (λ x. ⊎_elim (λ y. absurd (x.0 y.0)) (λ y. (x.1.0 ∙ sym y.1.0, x.1.1 ∙ sym y.1.1)) q) p

contents_refuses : (s : List ℕ) → Refuses (contents_checks s)
unfolding Refuses ◌then◌
contents_refuses s = (omega arith, (omega arith, (omega arith, (omega arith, (omega arith, (omega arith, tt))))))

pub body_refuses : (b f : List ℕ) → Refuses (body_checks b f)
unfolding Refuses
body_refuses b f = (omega arith, (omega arith, tt))

pub node_refuses : (v : ℕ) (f : List ℕ) (k : ℕ) → Refuses (node_checks v f k)
unfolding Refuses
node_refuses v f k = (omega arith, (omega arith, tt))

pub use_refuses : (f : List ℕ) (k : ℕ) → Refuses (use_checks f k)
unfolding Refuses
use_refuses f k = (omega arith, tt)

-- the contents are as stated exactly if no part of them is refused
pub laid_passes : (s : List ℕ) → LaidOut s → Passes (contents_checks s)
unfolding Passes ◌then◌ start_of EndOk
laid_passes s g =
    let c = g.1 in
    (g.0, (c.entries, (c.bounds_kind, ((c.first, omega (arith, c.second, c.ends)), (c.formula_kind, ((c.second, c.ends), tt))))))

pub passes_laid : (s : List ℕ) → Passes (contents_checks s) → LaidOut s
unfolding Passes ◌then◌ start_of EndOk
passes_laid s p =
    let first = p.1.1 in
    let second = first.1.1 in (
      p.0,
      record { entries = p.1.0; bounds_kind = first.0; formula_kind = second.0; first = first.1.0.0; second = second.1.0.0; ends = second.1.0.1 },
    )

-- number 0 of the contents, and any other
pub reads_laid_out : (s : List ℕ) (a : Answer) → Answers (contents_checks s) Yes a → a.number ≡ 0 → LaidOut s
reads_laid_out s a q e = passes_laid s (passes_of_yes (contents_checks s) a (contents_refuses s) q e)

pub not_laid_out : (s : List ℕ) (a : Answer) → Answers (contents_checks s) Yes a → ¬ (a.number ≡ 0) → ¬ LaidOut s
not_laid_out s a q f g = fails_of_refused (contents_checks s) a q f (laid_passes s g)

-- the stretch lies in the book
pub stretch_fits : (s : List ℕ) (e : ℕ) → Given s e → offset s e + size s e ≤ length s
stretch_fits s e g = go e g.1
  where
    go : (e : ℕ) → e ≤ 1 → offset s e + size s e ≤ length s
    go zero l = omega (arith, g.0.1.second, g.0.1.ends)
    go (suc zero) l = omega (arith, g.0.1.ends)
    go (suc (suc e)) l = absurd (omega arith)

pub stretch_short : (s : List ℕ) (e : ℕ) → Given s e → offset s e + size s e ≤ 206
stretch_short s e g = omega (arith, stretch_fits s e g, g.0.0.1)

pub stretch_length : (s : List ℕ) (e : ℕ) → Given s e → length (stretch s e) ≡ size s e
stretch_length s e g = let h = stretch_fits s e g in rw (length-take, length-drop) (omega arith)

-- the stretch between two places of the book
pub stretch_is : (s : List ℕ) (e start len end : ℕ) → start ≡ offset s e → len ≡ size s e → end ≡ start + len → take (end - start) (drop start s) ≡ stretch s e
stretch_is s e start len end es el ee =
    let n : end - start ≡ size s e = omega arith in
    ap₂ (λ (k i : ℕ). take k (drop i s)) n es

pub body_given : (s : List ℕ) (e : ℕ) (r : List ℕ) → Body s e r → Given s e → r ≡ stretch s e
unfolding Body
body_given s e r q g = ⊎_elim (λ x. x.1) (λ x. absurd (x.0 g)) q

-- a book has no room for more than 64 nodes
pub formula_short : (s : List ℕ) → LaidOut s → length (stretch s 0) ≡ 3 → length (formula_of s) ≤ 3 * most_nodes
formula_short s g three =
    let bounds : size s 0 ≡ 3 = sym (stretch_length s 0 (g, omega arith)) ∙ three in
    omega (arith, stretch_length s 1 (g, omega arith), stretch_fits s 1 (g, omega arith), g.0.1, g.1.first, g.1.second)

-- ---- an accepted book

pub nodes_sound : (v : ℕ) (f : List ℕ) → Passes (upto (node_checks v f) (nodes f)) → Sound v f (nodes f)
unfolding Passes
nodes_sound v f p k l = let q = passes_at (node_checks v f) (nodes f) p k l in record { operator = q.0; operands = q.1.0 }

book_refuses : (s : List ℕ) → Refuses (book_checks s)
book_refuses s =
    refuses_then (contents_checks s) (body_checks (stretch s 0) (formula_of s) then table_checks (vars_of s) (formula_of s)) (contents_refuses s)
    (refuses_then (body_checks (stretch s 0) (formula_of s)) (table_checks (vars_of s) (formula_of s)) (body_refuses (stretch s 0) (formula_of s))
    (refuses_then (upto (node_checks (vars_of s) (formula_of s)) (nodes (formula_of s))) (upto (use_checks (formula_of s)) (root (formula_of s)))
    (refuses_upto (node_checks (vars_of s) (formula_of s)) (node_refuses (vars_of s) (formula_of s)) (nodes (formula_of s)))
    (refuses_upto (use_checks (formula_of s)) (use_refuses (formula_of s)) (root (formula_of s)))))

-- "number 0 exactly if all parts hold"
pub reads_yes : (s : List ℕ) (a : Answer) → Reads s a → a.number ≡ 0 → Accepted s
unfolding Reads Accepted
reads_yes s a q e = passes_of_yes (book_checks s) a (book_refuses s) q e

-- number 0 where a book is read first: the book is accepted, and the rest passes
pub book_zero : (s : List ℕ) (d : Checks) (R : Answer → Type 0) (a : Answer) → Refuses d → Answers (book_checks s then d) R a → a.number ≡ 0 → Passes (book_checks s) × (Passes d × R a)
unfolding Reads Accepted
book_zero s d R a w q e =
    ⊎_elim (λ x. absurd (x.1 (reads_yes s a x.0 e))) (λ x. (x.0, answers_zero d R a w x.1 e)) (answers_split (book_checks s) d R a q)

pub reads_no : (s : List ℕ) (a : Answer) → Reads s a → ¬ (a.number ≡ 0) → ¬ Accepted s
unfolding Reads Accepted
reads_no s a q f = fails_of_refused (book_checks s) a q f

module _ (s : List ℕ) (ok : Accepted s) where
  parts : Passes (contents_checks s) × (Passes (body_checks (stretch s 0) (formula_of s)) × (Passes (upto (node_checks (vars_of s) (formula_of s)) (nodes (formula_of s))) × Passes (upto (use_checks (formula_of s)) (root (formula_of s)))))
  unfolding Accepted
  parts =
      let a = then_passes (contents_checks s) (body_checks (stretch s 0) (formula_of s) then table_checks (vars_of s) (formula_of s)) ok in
      let b = then_passes (body_checks (stretch s 0) (formula_of s)) (table_checks (vars_of s) (formula_of s)) a.1 in
      (a.0, (b.0, then_passes (upto (node_checks (vars_of s) (formula_of s)) (nodes (formula_of s))) (upto (use_checks (formula_of s)) (root (formula_of s))) b.1))

  pub accepted_whole : Whole s
  unfolding Passes
  accepted_whole =
      let laid' : LaidOut s = passes_laid s parts.0 in
      let b = parts.1.0.0 in
      let f = parts.1.0.1.0 in
      let fits = formula_short s laid' b.three in
      record {
        laid = laid';
        bounds = b;
        some = omega (arith, f.0, f.1);
        few = omega (arith, fits);
        bytes = omega (arith, f.1);
        sound = nodes_sound (vars_of s) (formula_of s) parts.1.1.0;
        tree = λ k l. (passes_at (use_checks (formula_of s)) (root (formula_of s)) parts.1.1.1 k (omega arith)).0;
      }

-- ---- the reader's answer, from the answers of its four steps

pub reads_contents : (s : List ℕ) (a : Answer) → Answers (contents_checks s) Yes a → ¬ (a.number ≡ 0) → Reads s a
unfolding Reads
reads_contents s a q f =
    answers_refused (contents_checks s) Yes (body_checks (stretch s 0) (formula_of s) then table_checks (vars_of s) (formula_of s)) a q f

-- b and f are the two bodies
module _ (s b f : List ℕ) (g : LaidOut s) (eb : b ≡ stretch s 0) (ef : f ≡ formula_of s) where
  -- what the bodies and the table answer is what the book answers
  bodies_after : (a : Answer) → Answers (body_checks b f then table_checks (get_or b 0 0) f) Yes a → Reads s a
  unfolding Reads
  bodies_after a q =
      answers_after (contents_checks s) (body_checks (stretch s 0) (formula_of s) then table_checks (vars_of s) (formula_of s)) Yes a (laid_passes s g)
      (subst₂ (λ (x y : List ℕ). Answers (body_checks x y then table_checks (get_or x 0 0) y) Yes a) eb ef q)

  pub reads_bodies : (a : Answer) → Answers (body_checks b f) Yes a → ¬ (a.number ≡ 0) → Reads s a
  reads_bodies a q w = bodies_after a (answers_refused (body_checks b f) Yes (table_checks (get_or b 0 0) f) a q w)

  table_after : (a : Answer) → Passes (body_checks b f) → Answers (table_checks (get_or b 0 0) f) Yes a → Reads s a
  table_after a p q = bodies_after a (answers_after (body_checks b f) (table_checks (get_or b 0 0) f) Yes a p q)

  pub reads_nodes : (a : Answer) → Passes (body_checks b f) → Answers (upto (node_checks (get_or b 0 0) f) (nodes f)) Yes a → ¬ (a.number ≡ 0) → Reads s a
  reads_nodes a p q w = table_after a p (answers_refused (upto (node_checks (get_or b 0 0) f) (nodes f)) Yes (upto (use_checks f) (root f)) a q w)

  pub reads_uses : (a : Answer) → Passes (body_checks b f) → Passes (upto (node_checks (get_or b 0 0) f) (nodes f)) → Answers (upto (use_checks f) (root f)) Yes a → Reads s a
  reads_uses a p k q = table_after a p (answers_after (upto (node_checks (get_or b 0 0) f) (nodes f)) (upto (use_checks f) (root f)) Yes a k q)

-- number 0 of the bodies and of the nodes
pub bodies_pass : (b f : List ℕ) (r : ℕ) → Answers (body_checks b f) Yes (answer r 0) → r ≡ 0 → Passes (body_checks b f)
bodies_pass b f r q e = passes_of_yes (body_checks b f) (answer r 0) (body_refuses b f) q e

pub nodes_pass : (v : ℕ) (f : List ℕ) (a : Answer) → Answers (upto (node_checks v f) (nodes f)) Yes a → a.number ≡ 0 → Passes (upto (node_checks v f) (nodes f))
nodes_pass v f a q e = passes_of_yes (upto (node_checks v f) (nodes f)) a (refuses_upto (node_checks v f) (node_refuses v f) (nodes f)) q e
