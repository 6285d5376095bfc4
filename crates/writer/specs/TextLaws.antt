-- A node's text, from its operator's words and its operands, and the export's result, from what its steps say. Assumes nothing.
use Rattle.std.proofs.Math.Path.{◌≡◌, sym, ap}
use Rattle.std.specs.Prelude.{refl, List, ◌++◌, ℕ, ◌<◌, ◌≤◌}
use Rattle.std.proofs.Common.{◌∙◌, inl, inr, arith}
use Rattle.std.proofs.Math.Decide.{ℕ_discrete}
use Rattle.std.proofs.Math.ListN.{length}
use Rattle.logic.specs.declared.Answer.{Answer}
use Rattle.logic.specs.Numbers.{answer}
use Rattle.logic.specs.Checks.{◌then◌, Answers}
use Rattle.logic.specs.CheckLaws.{Yes}
use Rattle.logic.proofs.CheckLaws.{answers_refused, answers_after}
use Rattle.logic.specs.Table.{op_of, operand_of, tree}
use Rattle.logic.specs.Book.{nodes, root, book_checks, Reads, Accepted, Known, Bodies}
use Rattle.logic.proofs.KnownLaws.{operator_some, atom_tree, join_tree}
use Rattle.logic.proofs.OpenLaws.{formula_is}
use Rattle.put.specs.Puts.{Room, Puts}
use Rattle.put.specs.PutsLaws.{room_first, room_as, puts_at_front}
use Rattle.writing.specs.Writing.{text_of, export_rest, Exports}
use Rattle.ownwords.specs.OwnWords.{text, before, behind, around, around_one, term}
use Rattle.ownwords.specs.OwnWordLaws.{atom_text, join_text, not_text, room_to_first}

-- ---- a node's

-- x and y are the node's operands, as code reads them
module _ (v : ℕ) (f : List ℕ) (w : Known v f) (k x y : ℕ) (h : k < nodes f) (ex : x ≡ operand_of f k 0) (ey : y ≡ operand_of f k 1) where
  pub text_atom : op_of f k ≤ 4 → around (op_of f k) (term x) (term y) ≡ text (tree f k)
  text_atom l = atom_text (op_of f k) x y (operator_some v f w k x y h).0 l ∙ ap text (sym (atom_tree v f w k x y h ex ey l))

  module _ (l : 5 ≤ op_of f k) where
    pub text_not : op_of f k ≡ 8 → around_one (op_of f k) (text (tree f x)) ≡ text (tree f k)
    text_not e = not_text (op_of f k) (tree f x) (tree f y) e ∙ ap text (sym (join_tree v f w k x y h ex ey l))

    pub text_join : ¬ (op_of f k ≡ 8) → around (op_of f k) (text (tree f x)) (text (tree f y)) ≡ text (tree f k)
    text_join n = join_text (op_of f k) (tree f x) (tree f y) l (operator_some v f w k x y h).1 n ∙ ap text (sym (join_tree v f w k x y h ex ey l))

    -- room for the words before a and for a, whether b follows or not
    pub room_to_a : (at : ℕ) (o : List ℕ) → Room at (text (tree f k)) o → Room at (before (op_of f k) ++ text (tree f x)) o
    room_to_a at o r = go (ℕ_discrete (op_of f k) 8)
      where
        go : Dec (op_of f k ≡ 8) → Room at (before (op_of f k) ++ text (tree f x)) o
        go (yes e) = room_first at (before (op_of f k) ++ text (tree f x)) (behind (op_of f k)) o (room_as at o (text_not e) r)
        go (no n) = room_to_first (op_of f k) at (text (tree f x)) (text (tree f y)) o (room_as at o (text_join n) r)

-- ---- the export's answer, from the answers of its steps

pub read_refused : (s o : List ℕ) (a : Answer) → Reads s a → ¬ (a.number ≡ 0) → Exports s o a o
unfolding Reads
read_refused s o a q f =
    record { answer = answers_refused (book_checks s) Yes (export_rest s o) a q f; wrote = λ e. absurd (f e); kept = λ e. refl }

-- f is the formula of an accepted book, and v, n and p are its bounds
module _ (s o f : List ℕ) (v n p : ℕ) (q : Bodies s f v n p) where
  after_book : (a : Answer) → Answers (export_rest s o) Yes a → Answers (book_checks s then export_rest s o) Yes a
  unfolding Accepted
  after_book a r = answers_after (book_checks s) (export_rest s o) Yes a q.accepted r

  text_is : text (tree f (root f)) ≡ text_of s
  unfolding text_of
  text_is = ap text (formula_is s f v n p q)

  module _ (a : Answer) where
    pub too_short : length o < length (text (tree f (root f))) → a ≡ answer 20 0 → Exports s o a o
    unfolding Answers
    too_short l d =
        record {
          answer = after_book a (inl (λ m. omega (arith, m, ap length text_is), d));
          wrote = λ z. let k : ◌≡◌ {A = ℕ} 20 0 = sym (ap (λ (r : Answer). r.number) d) ∙ z in absurd (omega arith);
          kept = λ z. refl;
        }

    pub exported : (m : ℕ) (now : List ℕ) → Puts 0 (text (tree f (root f))) o now m → a ≡ answer 0 0 → Exports s o a now
    unfolding Answers
    exported m now u d =
        record {
          answer = after_book a (inr (omega (arith, u.room, ap length text_is), d));
          wrote = λ z. (puts_at_front (text_of s) o now m (rw text_is at u)).1;
          kept = λ z. absurd (z (ap (λ (r : Answer). r.number) d));
        }
