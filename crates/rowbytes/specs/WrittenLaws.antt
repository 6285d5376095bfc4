-- Laws of what is written: bytes behind bytes, and rows behind rows. Assumes nothing.
use Rattle.std.specs.Prelude.{◌≡◌, refl, List, [], ◌∷◌, ◌++◌, ℕ, zero, suc, ◌+◌, ◌-◌, ◌*◌, ◌≤◌, length, take, drop}
use Rattle.std.proofs.Common.{sym, ap, ap₂, ◌∙◌, append_assoc, arith, length-append, take_at, drop-drop, length-take-le}
use Rattle.std.proofs.Math.Seq.{drop-append-add}
use Rattle.rows.specs.declared.Fields.{Fields}
use Rattle.rows.specs.declared.Next.{Next}
use Rattle.rows.specs.Row.{Row, fields_of, ten_bytes, bytes_of}
use Rattle.rows.specs.Table.{moved}
use Rattle.rows.proofs.OutputLaws.{bytes_append, bytes_long}
use Rattle.rowbytes.specs.declared.Writer.{Writer}
use Rattle.rowbytes.specs.Written.{put, Puts, Space, Kept}

pub put_put : (at : ℕ) (xs ys o : List ℕ) → at + length xs ≤ length o → put (at + length xs) ys (put at xs o) ≡ put at (xs ++ ys) o
unfolding put
put_put at xs ys o h =
    let n : length (take at o ++ xs) ≡ at + length xs = simp (length-append, length-take-le at o (omega arith)) in
    let m : at + length xs + length ys ≡ length (take at o ++ xs) + length ys = omega arith in
    let w : at + length xs + length ys ≡ at + length (xs ++ ys) = simp length-append (omega arith) in
    rw (take_at (take at o ++ xs) (drop (at + length xs) o) (at + length xs) n, m, drop-append-add (take at o ++ xs) (drop (at + length xs) o) (length ys), drop-drop (length ys) (at + length xs) o, w, append_assoc (take at o) xs ys)

-- ten bytes that are copied to the place of row n are written there
pub bytes_copied : (l xs bs : List ℕ) (n w : ℕ) → w ≡ n → xs ≡ bs → length bs ≡ 10 → take (10 * w) l ++ (xs ++ drop (10 * w + 10 - 10 * w) (drop (10 * w) l)) ≡ put (10 * n) bs l
unfolding put
bytes_copied l xs bs n w e d h =
    let k : 10 * w + 10 - 10 * w ≡ 10 = omega arith in
    rw (k, e, d, drop-drop 10 (10 * n) l, h) (sym (append_assoc (take (10 * n) l) bs (drop (10 * n + 10) l)))

moved_moved : (s : Next) (r i j r' i' j' : ℕ) → moved s (r + r') (i + i') (j + j') ≡ moved (moved s r i j) r' i' j'
moved_moved s r i j r' i' j' =
    let a : s.row + (r + r') ≡ s.row + r + r' = omega arith in
    let b : s.array + (i + i') ≡ s.array + i + i' = omega arith in
    let c : s.set + (j + j') ≡ s.set + j + j' = omega arith in
    rw (a, b, c)

pub moved_row : (s : Next) (r : ℕ) → ◌≡◌ {A = Next} (record { row = s.row + r; array = s.array; set = s.set }) (moved s r 0 0)
moved_row s r =
    let a : s.array + 0 ≡ s.array = omega arith in
    let b : s.set + 0 ≡ s.set = omega arith in
    rw (a, b)

-- the number of the next row, after r rows
pub row_after : {s t : Next} {r i j : ℕ} {bs o now : List ℕ} → Puts s r i j bs t o now → t.row ≡ s.row + r
row_after p = rw p.numbers

-- rows behind rows
pub puts_puts : {s t u : Next} {r i j r' i' j' : ℕ} {xs ys o o₁ o₂ : List ℕ} → length xs ≡ 10 * r → 10 * (s.row + r) ≤ length o
    → Puts s r i j xs t o o₁ → Puts t r' i' j' ys u o₁ o₂ → Puts s (r + r') (i + i') (j + j') (xs ++ ys) u o o₂
puts_puts {s} {t} {u} {r} {i} {j} {r'} {i'} {j'} {xs} {ys} {o} {o₁} {o₂} e h p q =
    let at : 10 * (s.row + r) ≡ 10 * s.row + length xs = omega arith in
    let row : 10 * t.row ≡ 10 * s.row + length xs = ap (λ (x : Next). 10 * x.row) p.numbers ∙ at in
    record {
      numbers = q.numbers ∙ ap (λ (x : Next). moved x r' i' j') p.numbers ∙ sym (moved_moved s r i j r' i' j');
      bytes = q.bytes ∙ ap₂ (λ (k : ℕ) (l : List ℕ). put k ys l) row p.bytes ∙ put_put (10 * s.row) xs ys o (omega arith);
    }

-- the same rows, counted or written in another way
pub puts_as : {s t : Next} {r i j r' i' j' : ℕ} {xs ys o now : List ℕ} → r ≡ r' → i ≡ i' → j ≡ j' → xs ≡ ys → Puts s r i j xs t o now → Puts s r' i' j' ys t o now
puts_as a b c d p = rw (← a, ← b, ← c, ← d) p

-- room for fewer rows
pub space_less : {s : Next} {r : ℕ} {o : List ℕ} (q : ℕ) → Space s r o → q ≤ r → Space s q o
space_less q h l = record { out = omega (arith, h.out); row = omega (arith, h.row) }

-- room for what follows r rows
pub space_after : {s t : Next} {r i j : ℕ} {bs o now : List ℕ} (q : ℕ) (o' : List ℕ) → Puts s r i j bs t o now → Space s (r + q) o → length o' ≡ length o → Space t q o'
space_after q o' p h e = let n = row_after p in record { out = omega (arith, h.out); row = omega (arith, h.row) }

-- ---- rows by name

pub one_row : (X : Row) {x : Fields} {s t : Next} {o now : List ℕ} → x ≡ fields_of X → Puts s 1 0 0 (ten_bytes x) t o now → Puts s 1 0 0 (bytes_of (X ∷ [])) t o now
unfolding bytes_of
one_row X e p = puts_as refl refl refl (ap ten_bytes e) p

pub rows_rows : {s t u : Next} {r i j r' i' j' : ℕ} (xs ys : List Row) {o o₁ o₂ : List ℕ} → length xs ≡ r → 10 * (s.row + r) ≤ length o
    → Puts s r i j (bytes_of xs) t o o₁ → Puts t r' i' j' (bytes_of ys) u o₁ o₂ → Puts s (r + r') (i + i') (j + j') (bytes_of (xs ++ ys)) u o o₂
rows_rows xs ys e h p q = puts_as refl refl refl (sym (bytes_append xs ys)) (puts_puts (bytes_long xs ∙ ap (λ (n : ℕ). 10 * n) e) h p q)

pub puts_none : (s : Next) (o : List ℕ) → Puts s 0 0 0 [] s o o
unfolding put
puts_none s o =
    let a : s.row + 0 ≡ s.row = omega arith in
    let b : s.array + 0 ≡ s.array = omega arith in
    let c : s.set + 0 ≡ s.set = omega arith in
    let e : 10 * s.row + 0 ≡ 10 * s.row = omega arith in
    record { numbers = rw (a, b, c); bytes = rw e (sym (around (10 * s.row) o)) }
  where
    around : (n : ℕ) (l : List ℕ) → (take n l ++ []) ++ drop n l ≡ l
    around zero l = refl
    around (suc n) [] = refl
    around (suc n) (x ∷ l) = ap (λ (z : List ℕ). x ∷ z) (around n l)

pub kept_then : {w u x : Writer} → Kept w u → Kept u x → Kept w x
kept_then p q = record { same = q.same ∙ p.same; long = q.long ∙ p.long }
