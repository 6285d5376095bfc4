-- Laws of bytes that a pen writes: none, and two writings one after the other. Assumes nothing.
use Rattle.std.specs.Prelude.{◌≡◌, refl, List, [], ◌++◌, ℕ, ◌≤◌, length}
use Rattle.std.proofs.Common.{◌∙◌}
use Rattle.put.specs.declared.Pen.{Pen}
use Rattle.put.specs.PutsLaws.{puts_none, puts_puts, puts_as, room_behind}
use Rattle.put.specs.Pens.{Space, Writes}

pub writes_none : (p : Pen) → p.at ≤ length p.out.now → Writes p [] p
writes_none p l = record { puts = puts_none p.at p.out.now l; same = refl }

-- room for more bytes behind
pub space_behind : {p q : Pen} {bs : List ℕ} → Writes p bs q → (ys : List ℕ) → Space p (bs ++ ys) → Space q ys
space_behind w ys l = room_behind w.puts ys l

pub writes_writes : {p q r : Pen} {xs ys : List ℕ} → Writes p xs q → Writes q ys r → Writes p (xs ++ ys) r
writes_writes a b = record { puts = puts_puts a.puts b.puts; same = b.same ∙ a.same }

pub writes_as : {p q : Pen} {xs ys : List ℕ} → xs ≡ ys → Writes p xs q → Writes p ys q
writes_as e a = record { puts = puts_as e a.puts; same = a.same }
