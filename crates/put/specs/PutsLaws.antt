-- Laws of bytes written into an output: one byte, none, and two writings one after the other. Assumes nothing.
use Rattle.std.specs.Prelude.{◌≡◌, refl, List, [], ◌∷◌, ◌++◌, ℕ, ◌+◌, ◌≤◌, length, take, drop, set}
use Rattle.std.proofs.Common.{sym, ap, ap₂, subst, ◌∙◌, append-nil, append_assoc, arith, length-append, take-append-drop, drop-drop}
use Rattle.std.proofs.lemmas.List.Edits.{sets-eq, length-paste, take-paste, drop-paste}
use Rattle.std.proofs.Math.Seq.{paste, take-length}
use Rattle.put.specs.Puts.{Room, Puts}

pub puts_none : (at : ℕ) (o : List ℕ) → at ≤ length o → Puts at [] o o at
puts_none at o l =
    let same : at ≡ at + 0 = omega arith in
    record {
      room = omega arith;
      wrote = sym (ap (λ (k : ℕ). take at o ++ [] ++ drop k o) (sym same) ∙ ap (λ (r : List ℕ). r ++ drop at o) (append-nil (take at o)) ∙ take-append-drop at o);
      after = same;
    }

pub puts_one : (at x : ℕ) (o : List ℕ) → Room at (x ∷ []) o → Puts at (x ∷ []) o (set o at x) (at + 1)
puts_one at x o l = record { room = l; wrote = sets-eq (x ∷ []) o at l; after = refl }

module _ {at : ℕ} {bs o o' : List ℕ} {m : ℕ} (p : Puts at bs o o' m) where
  -- the same as a copy of all the bytes
  puts_paste : o' ≡ paste o at bs (length bs)
  puts_paste = p.wrote ∙ ap (λ (r : List ℕ). take at o ++ r ++ drop (at + length bs) o) (sym (take-length bs))

  pub puts_long : length o' ≡ length o
  puts_long = ap length puts_paste ∙ length-paste o at bs (length bs) p.room (omega arith)

  puts_front : take m o' ≡ take at o ++ bs
  puts_front =
      ap₂ take p.after puts_paste
      ∙ take-paste o at bs (length bs) (omega (arith, p.room)) (omega arith)
      ∙ ap (λ (r : List ℕ). take at o ++ r) (take-length bs)

  puts_rest : drop m o' ≡ drop m o
  puts_rest =
      ap₂ drop p.after puts_paste
      ∙ drop-paste o at bs (length bs) (omega (arith, p.room)) (omega arith)
      ∙ ap (λ (k : ℕ). drop k o) (sym p.after)

  -- room for more bytes behind
  pub room_behind : (ys : List ℕ) → Room at (bs ++ ys) o → Room m ys o'
  room_behind ys l = omega (arith, p.after, puts_long, length-append bs ys)

pub room_first : (at : ℕ) (xs ys o : List ℕ) → Room at (xs ++ ys) o → Room at xs o
room_first at xs ys o l = omega (arith, length-append xs ys)

pub puts_puts : {at : ℕ} {xs ys o p q : List ℕ} {m r : ℕ} → Puts at xs o p m → Puts m ys p q r → Puts at (xs ++ ys) o q r
puts_puts {at} {xs} {ys} {o} {p} {q} {m} {r} a b =
    let long : at + length (xs ++ ys) ≡ m + length ys = omega (arith, length-append xs ys, a.after) in
    let back : drop (m + length ys) p ≡ drop (at + length (xs ++ ys)) o =
    sym (drop-drop (length ys) m p) ∙ ap (drop (length ys)) (puts_rest a) ∙ drop-drop (length ys) m o ∙ ap (λ (k : ℕ). drop k o) (sym long) in
    record {
      room = omega (arith, puts_long a, b.room, long);
      wrote = b.wrote
          ∙ ap₂ (λ (f e : List ℕ). f ++ ys ++ e) (puts_front a) back
          ∙ ap (λ (f : List ℕ). f ++ drop (at + length (xs ++ ys)) o) (append_assoc (take at o) xs ys);
      after = b.after ∙ sym long;
    }

pub puts_as : {at : ℕ} {xs ys o p : List ℕ} {m : ℕ} → xs ≡ ys → Puts at xs o p m → Puts at ys o p m
puts_as {at} {xs} {ys} {o} {p} {m} e a = subst (λ (bs : List ℕ). Puts at bs o p m) e a

pub room_as : {xs ys : List ℕ} (at : ℕ) (o : List ℕ) → xs ≡ ys → Room at ys o → Room at xs o
room_as at o e r = omega (arith, ap length e)

-- what is written from place 0 on stands at the front
pub puts_at_front : (bs o o' : List ℕ) (m : ℕ) → Puts 0 bs o o' m → (m ≡ length bs) × (o' ≡ bs ++ drop (length bs) o)
puts_at_front bs o o' m p =
    let same : 0 + length bs ≡ length bs = omega arith in
    (p.after ∙ same, p.wrote ∙ ap (λ (k : ℕ). bs ++ drop k o) same)
