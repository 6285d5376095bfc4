-- `strays::marks_of` meets its contract. Assumes nothing.
use mathlib.Core.Path.{◌∙◌, ap}
use Prim.Native.Nat.{ℕ, ◌^◌}
use native.Mathlib.Omega.{arith}
use Rattle.logic.proofs.NodeLaws.{atom_operands}
use Rattle.strays.specs.MarkLaws.{marks_atom, marks_join}
use Rattle.strays.proofs.marks_of.Goals as goal

pub bit-requires : goal.bit-requires
bit-requires c =
    let a = c.args in
    let p = c.requires in
    let q = atom_operands a.v a.f.now a.k p.1 (omega arith) in
    omega (arith, q.0, p.2, c.from-a.ensures)

pub bit-requires-in-1-to-4 : goal.bit-requires-in-1-to-4
bit-requires-in-1-to-4 c =
    let a = c.args in
    let p = c.requires in
    let q = atom_operands a.v a.f.now a.k p.1 (omega arith) in
    omega (arith, q.1, p.2, c.from-b.ensures)

pub returns-in-1-to-4 : goal.returns-in-1-to-4
returns-in-1-to-4 c =
    let a = c.args in
    marks_atom a.f.now a.k c.bit.result c.bit-in-1-to-4.result (omega arith) (c.bit.ensures ∙ ap (λ (x : ℕ). 2 ^ x) c.from-a.ensures) (c.bit-in-1-to-4.ensures ∙ ap (λ (x : ℕ). 2 ^ x) c.from-b.ensures)

pub returns-in_default-2 : goal.returns-in_default-2
returns-in_default-2 c =
    let a = c.args in
    marks_join a.f.now a.k (λ l. omega (arith, l))
