-- Which variables the atoms of a formula name. Assumes nothing: these are definitions.
use Rattle.std.specs.Prelude.{◌≡◌, ◌⊎◌, ℕ}
use Rattle.logic.specs.Formula.{Form}
use Rattle.logic.specs.Formula.Form.{same, diff, pts, ls, conj, disj, but, neg, sep, sept}

-- x is an operand of an atom of the formula
unfoldable pub NamedIn : Form → ℕ → Type 0
NamedIn (same a b) x = (a ≡ x) ⊎ (b ≡ x)
NamedIn (diff a b) x = (a ≡ x) ⊎ (b ≡ x)
NamedIn (pts a b) x = (a ≡ x) ⊎ (b ≡ x)
NamedIn (ls a b) x = (a ≡ x) ⊎ (b ≡ x)
NamedIn (conj F G) x = NamedIn F x ⊎ NamedIn G x
NamedIn (disj F G) x = NamedIn F x ⊎ NamedIn G x
NamedIn (but F G) x = NamedIn F x ⊎ NamedIn G x
NamedIn (neg F) x = NamedIn F x
NamedIn (sep F G) x = NamedIn F x ⊎ NamedIn G x
NamedIn (sept F G) x = NamedIn F x ⊎ NamedIn G x
