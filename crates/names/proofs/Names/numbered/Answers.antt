-- `names::Names::numbered` meets its contract. Assumes nothing.
use mathlib.Core.Path.{sym, ◌∙◌}
use native.Mathlib.Omega.{arith}
use Rattle.std.proofs.Common.{take, length-take-le}
use Rattle.names.specs.NameLaws.{place_found, place_none, noted_known, noted_over, noted_new}
use Rattle.names.proofs.Names.numbered.Goals as goal

pub returns-in-Some : goal.returns-in-Some
returns-in-Some c =
    let n = c.args.self.now in
    let p = place_found (take n.count n.letters) c.args.w c.in-Some.i (sym c.place_of.ensures ∙ c.in-Some.is) in
    noted_known n c.args.w c.in-Some.i p.1 (omega (arith, p.0, length-take-le n.count n.letters))

pub returns-then-self-ge-MOST : goal.returns-then-self-ge-MOST
returns-then-self-ge-MOST c =
    let n = c.args.self.now in
    let p = place_none (take n.count n.letters) c.args.w (sym c.place_of.ensures ∙ c.in_default.is) in
    noted_over n c.args.w n.count (sym (length-take-le n.count n.letters (omega arith)) ∙ p) (omega arith) c.if-self-ge-MOST.true

pub returns : goal.returns
returns c =
    let n = c.args.self.now in
    let p = place_none (take n.count n.letters) c.args.w (sym c.place_of.ensures ∙ c.in_default.is) in
    noted_new n c.args.w n.count (sym (length-take-le n.count n.letters (omega arith)) ∙ p) (omega arith) (omega arith) _ _
