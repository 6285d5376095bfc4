-- `encoder::own_rows` meets its contract. Assumes nothing.
use borrow.Author.Rules.{rules}
use mathlib.Core.Path.{◌≡◌, sym, ◌∙◌, ap}
use Prim.Native.Nat.{ℕ, ◌+◌}
use native.Mathlib.Omega.{arith}
use Rattle.encoder.specs.EncodeLaws.{own_pair, own_ls, own_one, own_but, own_sep, own_sept}
use Rattle.encoder.proofs.own_rows.Goals.{in_default-via-then-op-lt1, in_default-via-else-op-lt1+else-op-lt4+else-op-lt7}
use Rattle.encoder.proofs.own_rows.Goals as goal

pub returns-in-4 : goal.returns-in-4
returns-in-4 c =
    let a = c.args in
    let e = c.from.ensures in
    (omega (arith, e) ∙ sym (own_ls a.profile a.n a.op (omega arith)), omega (arith, e))

pub returns-in-7 : goal.returns-in-7
returns-in-7 c = (sym (own_but _ _ _ (omega arith)), search rules)

pub returns-in-9 : goal.returns-in-9
returns-in-9 c =
    let a = c.args in
    let r = c.apart_rows.ensures in
    (ap (λ (k : ℕ). 3 + k) r.0 ∙ sym (own_sep a.profile a.n a.op (omega arith)), omega (arith, r.1))

pub returns-in-1-to-3 : goal.returns-in-1-to-3
returns-in-1-to-3 c = (sym (own_pair _ _ _ (omega arith)), search rules)

pub returns-in_default : goal.returns-in_default
returns-in_default c =
    let a = c.args in
    let r = c.apart_rows-in_default.ensures in
    let ten : a.op ≡ 10 = elim c.in_default.branch [ in_default-via-then-op-lt1 w ↦ omega arith | in_default-via-else-op-lt1+else-op-lt4+else-op-lt7 w ↦ omega arith ] in
    (ap (λ (k : ℕ). 5 + k) r.0 ∙ sym (own_sept a.profile a.n a.op ten), omega (arith, r.1))

pub returns-in-5-to-6 : goal.returns-in-5-to-6
returns-in-5-to-6 c = (sym (own_one _ _ _ (omega arith) (omega arith) (λ e. omega arith)), search rules)

pub returns-in-5-to-6-2 : goal.returns-in-5-to-6-2
returns-in-5-to-6-2 c = (sym (own_one _ _ _ (omega arith) (omega arith) (λ e. omega arith)), search rules)
