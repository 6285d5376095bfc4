-- The encoder's result, from what its steps say. Assumes nothing.
use Rattle.std.proofs.Math.Path.{◌≡◌, refl, sym, ap}
use Rattle.std.proofs.Common.{◌∙◌, ap₂, subst, append_assoc, append-nil, zero-add, arith, length-drop, length-append, drop_of_length-le, drop-drop, take_at, drop_at, take_all}
use Rattle.std.specs.Prelude.{Bool, true, false, List, [], ◌++◌, ℕ, ◌+◌, ◌-◌, ◌*◌, ◌≤◌, ◌<◌, take}
use Rattle.std.proofs.Math.Logic.{inl, inr}
use Rattle.std.proofs.Math.ListN.{length, drop}
use borrow.Author.Tests.{le-leb, lt-leb, ne_eqb}
use Rattle.logic.specs.declared.Profile.{Profile}
use Rattle.logic.specs.declared.Answer.{Answer}
use Rattle.logic.specs.Numbers.{answer}
use Rattle.logic.specs.Checks.{◌then◌, Answers}
use Rattle.logic.specs.CheckLaws.{Yes}
use Rattle.logic.proofs.CheckLaws.{answers_refused, answers_after}
use Rattle.logic.specs.Reflect.{Is}
use Rattle.logic.proofs.Reflect.{fails}
use Rattle.logic.specs.Formula.{Form}
use Rattle.logic.specs.Table.{op_of, tree}
use Rattle.logic.specs.Weight.{sum}
use Rattle.logic.specs.Book.{head_of, nodes, root, book_formula, locs_of, book_checks, Reads, Accepted, Known, Bodies}
use Rattle.logic.proofs.KnownLaws.{counted}
use Rattle.logic.proofs.OpenLaws.{locs_low, known, formula_is}
use Rattle.rows.specs.declared.Next.{Next}
use Rattle.rows.specs.Row.{bytes_of}
use Rattle.rows.specs.Row.Row.{LONG}
use Rattle.rows.specs.Table.{Encodable, start, also, apart_row_count, rows_in, rows_of, table}
use Rattle.rows.proofs.TableLaws.{rows_long, table_long}
use Rattle.rows.specs.Bounds.{most_rows, own_row_count}
use Rattle.rows.proofs.BoundsLaws.{rows_add}
use Rattle.rows.specs.Output.{out_book, encoding_of, encode_rest, Encodes}
use Rattle.rows.proofs.OutputLaws.{encoding_long}
use Rattle.encodable.specs.CountingLaws.{rows_most, arrays_most, sets_most}
use Rattle.rowbytes.specs.Written.{put, Puts}
use Rattle.rowbytes.specs.WrittenLaws.{row_after, puts_as, space_less, rows_rows}
use Rattle.ownrows.specs.Encoded.{Room, Encoded}
use Rattle.encoder.specs.Writable.{RoomTable, Writable}

-- ---- how many rows there are

-- a node's own, as the code goes through the operators
module _ (π : Profile) (n o : ℕ) where
  pub own_pair : o ≤ 3 → own_row_count π n o ≡ 3
  unfolding own_row_count
  own_pair l = rw (le-leb o 3 l)

  pub own_ls : o ≡ 4 → own_row_count π n o ≡ n + 1 + n
  unfolding own_row_count
  own_ls e = rw e

  pub own_one : 5 ≤ o → o ≤ 8 → ¬ (o ≡ 7) → own_row_count π n o ≡ 1
  unfolding own_row_count
  own_one h l d = rw (lt-leb o 3 (omega arith), lt-leb o 4 h, ne_eqb o 7 d, le-leb o 8 l)

  pub own_but : o ≡ 7 → own_row_count π n o ≡ 2
  unfolding own_row_count
  own_but e = rw e

  pub own_sep : o ≡ 9 → own_row_count π n o ≡ 3 + apart_row_count π
  unfolding own_row_count
  own_sep e = rw e

  pub own_sept : o ≡ 10 → own_row_count π n o ≡ 5 + apart_row_count π
  unfolding own_row_count
  own_sept e = rw e

-- the sum over the nodes is the number of the formula's rows
pub rows_are : (π : Profile) (v : ℕ) (f : List ℕ) → Known v f → (n r : ℕ) → r ≡ sum (nodes f) (λ k. own_row_count π n (op_of f k)) → r + 2 ≡ rows_in π n (tree f (root f)) + 2
rows_are π v f w n r e = ap (λ (k : ℕ). k + 2) (e ∙ sym (counted v f w (rows_in π n) (λ o x y. own_row_count π n o) (rows_add π n)))

-- ---- the whole book

-- the contents and the bounds, and behind them the rows
head_rows : (h bs o : List ℕ) → length h ≡ 14 → take 14 (put 0 h o) ++ put 0 bs (drop 14 (put 0 h o)) ≡ put 0 (h ++ bs) o
unfolding put
head_rows h bs o e =
    let n : 0 + length h + (0 + length bs) ≡ 0 + length (h ++ bs) = simp length-append (omega arith) in
    rw (take_at h (drop (0 + length h) o) 14 e, drop_at h (drop (0 + length h) o) 14 e, drop-drop (0 + length bs) (0 + length h) o, n)
    (sym (append_assoc h bs (drop (0 + length (h ++ bs)) o)))

-- the same where the rows went into the part of the output from byte 14 on
part_written : (h bs o x y : List ℕ) → length h ≡ 14 → x ≡ put 0 h o → y ≡ put 0 bs (take (length x - 14) (drop 14 x)) → take 14 x ++ (y ++ drop (length x - 14) (drop 14 x)) ≡ put 0 (h ++ bs) o
part_written h bs o x y e d f =
    let all : take (length x - 14) (drop 14 x) ≡ drop 14 x = take_all (length x - 14) (drop 14 x) (omega (arith, length-drop 14 x)) in
    let none : drop (length x - 14) (drop 14 x) ≡ [] = drop_of_length-le (drop 14 x) {i = length x - 14} (omega (arith, length-drop 14 x)) in
    ap₂ (λ (a b : List ℕ). take 14 x ++ (a ++ b)) (f ∙ ap (put 0 bs) all) none
    ∙ ap (λ (a : List ℕ). take 14 x ++ a) (append-nil (put 0 bs (drop 14 x)))
    ∙ ap (λ (a : List ℕ). take 14 a ++ put 0 bs (drop 14 a)) d
    ∙ head_rows h bs o e

-- the formula's rows, and behind them LONG and its AND
module _ (π : Profile) (n p : ℕ) (F : Form) (o : List ℕ) (h : RoomTable π n F o) where
  pub room_formula : Room π n F start o
  room_formula = record { space = space_less (rows_in π n F) h.space (omega arith); array = h.array; set = h.set }

  pub table_written : {t u : Next} {o₁ o₂ : List ℕ} → Encoded π n F 0 0 start t o o₁ → Puts t 2 0 0 (bytes_of (also (t.row - 1) (LONG 0 0 p))) u o₁ o₂ → o₂ ≡ put 0 (bytes_of (table π n p F)) o
  table_written {t} q r =
      let e : t.row - 1 ≡ rows_in π n F - 1 = omega (arith, row_after q) in
      (rows_rows (rows_of π n F 0 0 start) (also (rows_in π n F - 1) (LONG 0 0 p)) (rows_long π n F 0 0 start) (omega (arith, h.space.out)) q
      (puts_as refl refl refl (ap (λ (k : ℕ). bytes_of (also k (LONG 0 0 p))) e) r)).bytes

module _ (π : Profile) (f : List ℕ) (n r : ℕ) (o : List ℕ) (w : Writable π f n r o) where
  rows_low : rows_in π n (tree f (root f)) + 2 ≤ most_rows
  rows_low = rows_most w.known.0 f w.known.1 π n w.locs

  pub bytes_low : 10 * r < 65536
  bytes_low = omega (arith, w.rows, rows_low)

  -- there is room behind the contents and the bounds, and numbers for the rows, arrays and sets
  pub room_behind : (o' : List ℕ) → length o' ≡ length o - 14 → RoomTable π n (tree f (root f)) o'
  room_behind o' e =
      let i = arrays_most w.known.0 f w.known.1 in
      let j = sets_most w.known.0 f w.known.1 in
      record { space = record { out = omega (arith, w.out, w.rows); row = omega (arith, rows_low) }; array = omega (arith, i); set = omega (arith, j) }

  pub book_written : (v p : ℕ) (x y : List ℕ) → x ≡ head_of 3 v n p (10 * r) ++ drop 14 o
      → y ≡ put 0 (bytes_of (table π n p (tree f (root f)))) (take (length x - 14) (drop 14 x))
      → take 14 x ++ (y ++ drop (length x - 14) (drop 14 x)) ≡ put 0 (out_book v n p (table π n p (tree f (root f)))) o
  unfolding put
  book_written v p x y d q =
      let e : 10 * r ≡ 10 * length (table π n p (tree f (root f))) = ap (λ (k : ℕ). 10 * k) (w.rows ∙ sym (table_long π n p (tree f (root f)))) in
      part_written (head_of 3 v n p (10 * length (table π n p (tree f (root f))))) (bytes_of (table π n p (tree f (root f)))) o x y refl
      (d ∙ ap (λ (k : ℕ). head_of 3 v n p k ++ drop 14 o) e) q

-- ---- the encoder's answer, from the answers of its steps

pub read_refused : (π : Profile) (s o : List ℕ) (a : Answer) → Reads s a → ¬ (a.number ≡ 0) → Encodes π s o a o
unfolding Reads
read_refused π s o a q f =
    record { number = answers_refused (book_checks s) Yes (encode_rest π s o) a q f; written = λ e. absurd (f e); refused = λ e. refl }

-- f is the formula of an accepted book, and v, n and p are its bounds
module _ (π : Profile) (s o f : List ℕ) (v n p : ℕ) (q : Bodies s f v n p) where
  after_book : (a : Answer) → Answers (encode_rest π s o) Yes a → Answers (book_checks s then encode_rest π s o) Yes a
  unfolding Accepted
  after_book a r = answers_after (book_checks s) (encode_rest π s o) Yes a q.accepted r

  encodable_is : (b : Bool) → Is b (Encodable (tree f (root f))) → Is b (Encodable (book_formula s))
  encodable_is b i = subst (λ (F : Form). Is b (Encodable F)) (formula_is s f v n p q) i

  pub not_encodable : (b : Bool) (a : Answer) → Is b (Encodable (tree f (root f))) → b ≡ false → a ≡ answer 19 0 → Encodes π s o a o
  unfolding Answers
  not_encodable b a i e d =
      record {
        number = after_book a (inl (fails b (encodable_is b i) e, d));
        written = λ z. let n : ◌≡◌ {A = ℕ} 19 0 = sym (ap (λ (r : Answer). r.number) d) ∙ z in absurd (omega arith);
        refused = λ z. refl;
      }

  module _ (b : Bool) (i : Is b (Encodable (tree f (root f)))) (e : b ≡ true) (r : ℕ) (c : r ≡ rows_in π n (tree f (root f)) + 2) where
    size : length (encoding_of π s) ≡ 14 + 10 * r
    size = let d : rows_in π n (tree f (root f)) ≡ rows_in π (locs_of s) (book_formula s) = ap₂ (rows_in π) q.locs (formula_is s f v n p q) in omega (arith, encoding_long π s)

    pub too_short : (a : Answer) → length o < 14 + 10 * r → a ≡ answer 20 0 → Encodes π s o a o
    unfolding Answers
    too_short a l d =
        record {
          number = after_book a (inr ((encodable_is b i).to e, inl (λ m. omega (arith, m, size), d)));
          written = λ z. let k : ◌≡◌ {A = ℕ} 20 0 = sym (ap (λ (r : Answer). r.number) d) ∙ z in absurd (omega arith);
          refused = λ z. refl;
        }

    pub writable : 14 + 10 * r ≤ length o → Writable π f n r o
    writable l = record { known = (v, known s f v n p q); locs = locs_low s f v n p q; rows = c; out = l }

    pub encoded : (a : Answer) (now : List ℕ) → 14 + 10 * r ≤ length o → now ≡ put 0 (out_book v n p (table π n p (tree f (root f)))) o → a ≡ answer 0 0 → Encodes π s o a now
    unfolding Answers encoding_of put
    encoded a now l d g =
        record {
          number = after_book a (inr ((encodable_is b i).to e, inr (omega (arith, size), g)));
          written = λ z. d ∙ same ∙ front;
          refused = λ z. absurd (z (ap (λ (r : Answer). r.number) g));
        }
      where
        same : put 0 (out_book v n p (table π n p (tree f (root f)))) o ≡ put 0 (encoding_of π s) o
        same = unfold encoding_of in rw (q.vars, q.locs, q.path, q.formula)

        front : put 0 (encoding_of π s) o ≡ encoding_of π s ++ drop (length (encoding_of π s)) o
        front = unfold put in ap (λ (k : ℕ). encoding_of π s ++ drop k o) (zero-add (length (encoding_of π s)))
