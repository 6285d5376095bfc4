-- `atomfacts::atom_fact` meets its contract. Assumes nothing.
use native.Mathlib.Omega.{arith}
use Rattle.atomfacts.specs.AtomLaws.{atom_1, atom_2, atom_3, atom_4}
use Rattle.atomfacts.proofs.atom_fact.Goals as goal

pub returns-in-1 : goal.returns-in-1
returns-in-1 c = atom_1 _ _ _ _ _ _ c.in-1.is c.same_fact.ensures

pub returns-in-2 : goal.returns-in-2
returns-in-2 c = atom_2 _ _ _ _ _ _ c.in-2.is c.diff_fact.ensures

pub returns-in-3 : goal.returns-in-3
returns-in-3 c = atom_3 _ _ _ _ _ _ c.in-3.is c.points_fact.ensures

pub returns-in_default : goal.returns-in_default
returns-in_default c = atom_4 _ _ _ _ _ _ (omega (arith, c.requires.0, c.requires.1)) c.list_fact.ensures
