-- A formula's rows, from the rows of its trees and its own, and the room for them. Assumes nothing.
use Rattle.std.specs.Prelude.{◌≡◌, List, [], ◌∷◌, ◌++◌, ℕ, ◌+◌, ◌-◌, ◌*◌, ◌≤◌, ◌<◌, length}
use Rattle.std.proofs.Math.Path.{refl}
use Rattle.std.proofs.Common.{sym, subst, ap, ap₂, ◌∙◌, arith}
use Rattle.logic.specs.declared.Profile.{Profile}
use Rattle.logic.specs.declared.Profile.TheVariants.{Strong}
use Rattle.logic.specs.Formula.{Form}
use Rattle.logic.specs.Formula.Form.{conj, disj, but, neg, sep, sept}
use Rattle.logic.specs.Table.{atom_of, join_of, join_from5, tree, op_of, operand_of}
use Rattle.logic.specs.Book.{nodes, Known, KnownTable}
use Rattle.rows.specs.declared.Next.{Next}
use Rattle.rows.specs.Row.{Row, bytes_of}
use Rattle.rows.specs.Row.Row.{AND, OR, NOT}
use Rattle.rows.specs.Table.{arrays_in, sets_in, moved, two_sets, array_and_sets, after, apart_row_count, sep_rows, sept_rows, rows_in, rows_of}
use Rattle.rows.proofs.TableLaws.{rows_some, rows_long, atom_long, atom_rows, trees_long}
use Rattle.logic.proofs.KnownLaws.{operator_some, atom_tree, join_tree}
use Rattle.rowbytes.specs.Written.{put, Puts, Space}
use Rattle.rowbytes.specs.WrittenLaws.{row_after, puts_as, rows_rows, space_after, space_less}
use Rattle.ownrows.specs.Encoded.{Room, Encoded}
use Rattle.treerows.specs.Trees.{Trees, RoomTrees}

-- ---- trees and own rows

-- arrays and sets that are made before the rows from s₁ on
new_symbols : {s t : Next} {r i j i' j' : ℕ} {bs o now : List ℕ} (s₁ : Next) → s₁.row ≡ s.row → s₁.array + i' ≡ s.array + i → s₁.set + j' ≡ s.set + j
    → Puts s₁ r i' j' bs t o now → Puts s r i j bs t o now
new_symbols {s} {t} {r} {i} {j} {i'} {j'} {bs} {o} s₁ a b c p =
    let d : s₁.row + r ≡ s.row + r = ap (λ (x : ℕ). x + r) a in
    let same : moved s₁ r i' j' ≡ moved s r i j = rw (d, b, c) in
    record { numbers = p.numbers ∙ same; bytes = p.bytes ∙ ap (λ (x : ℕ). put (10 * x) bs o) a }

module _ (π : Profile) (n : ℕ) (a b : Form) where
  -- the rows of two trees, one behind the other
  pub two_trees : (A S T : ℕ) {s t u : Next} {o o₁ o₂ : List ℕ} → Space s (rows_in π n a) o → Encoded π n a A S s t o o₁ → Encoded π n b A T t u o₁ o₂ → Trees π n a b A S T s t.row u o o₂
  two_trees A S T {s} {t} {u} h q r =
      record {
        first = row_after q;
        puts = rows_rows (rows_of π n a A S s) (rows_of π n b A T (after π n a s)) (rows_long π n a A S s) h.out q
            (puts_as refl refl refl (ap (λ (x : Next). bytes_of (rows_of π n b A T x)) q.numbers) r);
      }

  -- k own rows behind two trees
  own_rows_put : (A S T k l : ℕ) (own : List Row) {s t u : Next} {o o₁ o₂ : List ℕ} → Space s (rows_in π n a + rows_in π n b + k) o → Trees π n a b A S T s l t o o₁ → Puts t k 0 0 (bytes_of own) u o₁ o₂
      → Puts s (rows_in π n a + rows_in π n b + k) (arrays_in a + arrays_in b) (sets_in a + sets_in b) (bytes_of ((rows_of π n a A S s ++ rows_of π n b A T (after π n a s)) ++ own)) u o o₂
  own_rows_put A S T k l own {s} h q r =
      puts_as refl (omega arith) (omega arith) refl
      (rows_rows (rows_of π n a A S s ++ rows_of π n b A T (after π n a s)) own (trees_long π n a b A S T s) (omega (arith, h.out)) q.puts r)

  -- where the trees end
  end : {A S T l : ℕ} {s t : Next} {o o₁ : List ℕ} → Trees π n a b A S T s l t o o₁ → t.row ≡ (after π n b (after π n a s)).row
  end q = row_after q.puts ∙ omega arith

  pub first_some : {A S T l : ℕ} {s t : Next} {o o₁ : List ℕ} → Trees π n a b A S T s l t o o₁ → 0 < l
  first_some q = omega (arith, q.first, rows_some π n a)

  pub next_some : {A S T l : ℕ} {s t : Next} {o o₁ : List ℕ} → Trees π n a b A S T s l t o o₁ → 0 < t.row
  next_some q = omega (arith, row_after q.puts, rows_some π n a)

  module _ (op A S l : ℕ) {s t u : Next} {o o₁ o₂ : List ℕ} where
    pub conj_rows : op ≡ 5 → Space s (rows_in π n a + rows_in π n b + 1) o → Trees π n a b A S S s l t o o₁ → Puts t 1 0 0 (bytes_of (AND (l - 1) (t.row - 1) ∷ [])) u o₁ o₂ → Encoded π n (join_of op a b) A S s u o o₂
    unfolding join_of join_from5 rows_in arrays_in sets_in rows_of
    conj_rows e h q r =
        rw e (own_rows_put A S S 1 l (AND ((after π n a s).row - 1) ((after π n b (after π n a s)).row - 1) ∷ []) h q
        (puts_as refl refl refl (ap₂ (λ (x y : ℕ). bytes_of (AND (x - 1) (y - 1) ∷ [])) q.first (end q)) r))

    pub disj_rows : op ≡ 6 → Space s (rows_in π n a + rows_in π n b + 1) o → Trees π n a b A S S s l t o o₁ → Puts t 1 0 0 (bytes_of (OR (l - 1) (t.row - 1) ∷ [])) u o₁ o₂ → Encoded π n (join_of op a b) A S s u o o₂
    unfolding join_of join_from5 rows_in arrays_in sets_in rows_of
    disj_rows e h q r =
        rw e (own_rows_put A S S 1 l (OR ((after π n a s).row - 1) ((after π n b (after π n a s)).row - 1) ∷ []) h q
        (puts_as refl refl refl (ap₂ (λ (x y : ℕ). bytes_of (OR (x - 1) (y - 1) ∷ [])) q.first (end q)) r))

    pub but_rows : op ≡ 7 → Space s (rows_in π n a + rows_in π n b + 2) o → Trees π n a b A S S s l t o o₁ → Puts t 2 0 0 (bytes_of (NOT (t.row - 1) ∷ AND (l - 1) t.row ∷ [])) u o₁ o₂ → Encoded π n (join_of op a b) A S s u o o₂
    unfolding join_of join_from5 rows_in arrays_in sets_in rows_of
    but_rows e h q r =
        rw e (own_rows_put A S S 2 l (NOT ((after π n b (after π n a s)).row - 1) ∷ AND ((after π n a s).row - 1) (after π n b (after π n a s)).row ∷ []) h q
        (puts_as refl refl refl (ap₂ (λ (x y : ℕ). bytes_of (NOT (y - 1) ∷ AND (x - 1) y ∷ [])) q.first (end q)) r))

    pub sep_encoded : op ≡ 9 → Space (two_sets s) (rows_in π n a + rows_in π n b + (3 + apart_row_count π)) o → Trees π n a b A s.set (s.set + 1) (two_sets s) l t o o₁
        → Puts t (3 + apart_row_count π) 0 0 (bytes_of (sep_rows π A S s.set (s.set + 1) l t.row)) u o₁ o₂ → Encoded π n (join_of op a b) A S s u o o₂
    unfolding join_of join_from5 rows_in arrays_in sets_in rows_of
    sep_encoded e h q r =
        let s₁ = two_sets s in
        let own = sep_rows π A S s.set (s.set + 1) (after π n a s₁).row (after π n b (after π n a s₁)).row in
        rw e (new_symbols s₁ refl refl (omega arith)
        (own_rows_put A s.set (s.set + 1) (3 + apart_row_count π) l own h q
        (puts_as refl refl refl (ap₂ (λ (x y : ℕ). bytes_of (sep_rows π A S s.set (s.set + 1) x y)) q.first (end q)) r)))

    pub sept_encoded : op ≡ 10 → Space (array_and_sets s) (rows_in π n a + rows_in π n b + (5 + apart_row_count π)) o → Trees π n a b s.array s.set (s.set + 1) (array_and_sets s) l t o o₁
        → Puts t (5 + apart_row_count π) 0 0 (bytes_of (sept_rows π A s.array S s.set (s.set + 1) l t.row)) u o₁ o₂ → Encoded π n (join_of op a b) A S s u o o₂
    unfolding join_of join_from5 rows_in arrays_in sets_in rows_of
    sept_encoded e h q r =
        let s₁ = array_and_sets s in
        let own = sept_rows π A s.array S s.set (s.set + 1) (after π n a s₁).row (after π n b (after π n a s₁)).row in
        rw e (new_symbols s₁ refl (omega arith) (omega arith)
        (own_rows_put s.array s.set (s.set + 1) (5 + apart_row_count π) l own h q
        (puts_as refl refl refl (ap₂ (λ (x y : ℕ). bytes_of (sept_rows π A s.array S s.set (s.set + 1) x y)) q.first (end q)) r)))

pub neg_rows : (π : Profile) (n op A S : ℕ) (a b : Form) {s t u : Next} {o o₁ o₂ : List ℕ} → op ≡ 8 → Space s (rows_in π n a + 1) o → Encoded π n a A S s t o o₁ → Puts t 1 0 0 (bytes_of (NOT (t.row - 1) ∷ [])) u o₁ o₂ → Encoded π n (join_of op a b) A S s u o o₂
unfolding join_of join_from5 rows_in arrays_in sets_in rows_of
neg_rows π n op A S a b {s} e h q r =
    rw e (puts_as refl (omega arith) (omega arith) refl
    (rows_rows (rows_of π n a A S s) (NOT ((after π n a s).row - 1) ∷ []) (rows_long π n a A S s) (omega (arith, h.out)) q
    (puts_as refl refl refl (ap (λ (x : ℕ). bytes_of (NOT (x - 1) ∷ [])) (row_after q)) r)))

-- ---- room

module _ (π : Profile) (n : ℕ) (a b : Form) (s : Next) (o : List ℕ) where
  pub room_first : RoomTrees π n a b s 0 o → Room π n a s o
  room_first h = record { space = space_less (rows_in π n a) h.space (omega arith); array = omega (arith, h.array); set = omega (arith, h.set) }

  pub room_second : (A S : ℕ) (t : Next) (o₁ o₂ : List ℕ) → RoomTrees π n a b s 0 o → Encoded π n a A S s t o o₁ → length o₂ ≡ length o → Room π n b t o₂
  room_second A S t o₁ o₂ h q e =
      let i : t.array ≡ s.array + arrays_in a = rw q.numbers in
      let j : t.set ≡ s.set + sets_in a = rw q.numbers in
      record { space = space_after (rows_in π n b) o₂ q (space_less (rows_in π n a + rows_in π n b) h.space (omega arith)) e; array = omega (arith, h.array); set = omega (arith, h.set) }

  pub room_none : (k : ℕ) → RoomTrees π n a b s k o → RoomTrees π n a b s 0 o
  room_none k h = record { space = space_less (rows_in π n a + rows_in π n b + 0) h.space (omega arith); array = h.array; set = h.set }

  module _ (op : ℕ) (r : Room π n (join_of op a b) s o) where
    pub room_conj : op ≡ 5 → RoomTrees π n a b s 1 o
    unfolding join_of join_from5 rows_in arrays_in sets_in
    room_conj e = let g : Room π n (conj a b) s o = rw e at r in record { space = g.space; array = g.array; set = g.set }

    pub room_disj : op ≡ 6 → RoomTrees π n a b s 1 o
    unfolding join_of join_from5 rows_in arrays_in sets_in
    room_disj e = let g : Room π n (disj a b) s o = rw e at r in record { space = g.space; array = g.array; set = g.set }

    pub room_but : op ≡ 7 → RoomTrees π n a b s 2 o
    unfolding join_of join_from5 rows_in arrays_in sets_in
    room_but e = let g : Room π n (but a b) s o = rw e at r in record { space = g.space; array = g.array; set = g.set }

    pub room_neg : op ≡ 8 → Room π n a s o × Space s (rows_in π n a + 1) o
    unfolding join_of join_from5 rows_in arrays_in sets_in
    room_neg e =
        let g : Room π n (neg a) s o = rw e at r in
        (record { space = space_less (rows_in π n a) g.space (omega arith); array = g.array; set = g.set }, g.space)

    pub room_sep : op ≡ 9 → RoomTrees π n a b (two_sets s) (3 + apart_row_count π) o × (s.set + 2 < 65536)
    unfolding join_of join_from5 rows_in arrays_in sets_in
    room_sep e =
        let g : Room π n (sep a b) s o = rw e at r in
        (record { space = record { out = g.space.out; row = g.space.row }; array = g.array; set = omega (arith, g.set) }, omega (arith, g.set))

    pub room_sept : op ≡ 10 → RoomTrees π n a b (array_and_sets s) (5 + apart_row_count π) o × (s.set + 2 < 65536) × (s.array + 1 < 65536)
    unfolding join_of join_from5 rows_in arrays_in sets_in
    room_sept e =
        let g : Room π n (sept a b) s o = rw e at r in
        (record { space = record { out = g.space.out; row = g.space.row }; array = omega (arith, g.array); set = omega (arith, g.set) }, omega (arith, g.set), omega (arith, g.array))

-- ---- the rows of a node

module _ (π : Profile) (v : ℕ) (f : List ℕ) (w : Known v f) (k x y n : ℕ) (h : k < nodes f) (ex : x ≡ operand_of f k 0) (ey : y ≡ operand_of f k 1) where
  pub room_atom : (s : Next) (o : List ℕ) → op_of f k ≤ 4 → Room π n (tree f k) s o → Room Strong n (atom_of (op_of f k) x y) s o
  room_atom s o l r =
      let g : Room π n (atom_of (op_of f k) x y) s o = rw (atom_tree v f w k x y h ex ey l) at r in
      let e = atom_long π n x y (op_of f k) (w.sound k h).operator.0 l in
      record { space = subst (λ (i : ℕ). Space s i o) e g.space; array = g.array; set = g.set }

  pub room_join : (s : Next) (o : List ℕ) → 5 ≤ op_of f k → Room π n (tree f k) s o → Room π n (join_of (op_of f k) (tree f x) (tree f y)) s o
  room_join s o l r = rw (join_tree v f w k x y h ex ey l) at r

  module _ (A S : ℕ) (s t : Next) (o now : List ℕ) where
    pub atom_encoded : op_of f k ≤ 4 → Encoded Strong n (atom_of (op_of f k) x y) A S s t o now → Encoded π n (tree f k) A S s t o now
    atom_encoded l q =
        let some = (w.sound k h).operator.0 in
        rw (atom_tree v f w k x y h ex ey l)
        (puts_as (sym (atom_long π n x y (op_of f k) some l)) refl refl (ap bytes_of (sym (atom_rows π n x y A S s (op_of f k) some l))) q)

    pub join_encoded : 5 ≤ op_of f k → Encoded π n (join_of (op_of f k) (tree f x) (tree f y)) A S s t o now → Encoded π n (tree f k) A S s t o now
    join_encoded l q = rw (join_tree v f w k x y h ex ey l) q

-- ---- a connective, as code is given it

module _ {π : Profile} {f : List ℕ} {k n : ℕ} {s : Next} {o : List ℕ} (z : (k < nodes f) × (5 ≤ op_of f k) × KnownTable f × Room π n (tree f k) s o) where
  pub connective : op_of f k ≤ 10
  connective = (operator_some z.2.0 f z.2.1 k 0 0 z.0).1

  pub own_room : Room π n (join_of (op_of f k) (tree f (operand_of f k 0)) (tree f (operand_of f k 1))) s o
  own_room = room_join π z.2.0 f z.2.1 k (operand_of f k 0) (operand_of f k 1) n z.0 refl refl s o z.1 z.3

  pub own_encoded : (A S : ℕ) {t : Next} {now : List ℕ} → Encoded π n (join_of (op_of f k) (tree f (operand_of f k 0)) (tree f (operand_of f k 1))) A S s t o now → Encoded π n (tree f k) A S s t o now
  own_encoded A S {t} {now} q = join_encoded π z.2.0 f z.2.1 k (operand_of f k 0) (operand_of f k 1) n z.0 refl refl A S s t o now z.1 q
