-- The bytes that were read are the reader's first 207, and what is written for them is what is printed.
use Rattle.std.proofs.Common.{◌≡◌, ℕ, ◌≤◌, ◌<◌, List, [], ◌++◌, Option, None, Some, IfSome, ◌⊎◌, ⊎_elim, inl, inr, eq-or-lt_of_le, arith, length, take, sym, ap, ◌∙◌, subst, append-nil, take_all, length-take-le, rules}
use Rattle.std.proofs.lemmas.List.{take_at, take-append-le}
use Rattle.std.proofs.Math.Seq.{take-length}
use Rattle.std.proofs.lemmas.Option.{IfSome_then}
use Rattle.std.proofs.lemmas.Result.{on_ok_weaker}
use Rattle.std.specs.Io.KnownBytes.{Appends, Consumes, IsAtEnd}
use Rattle.print.specs.Prints.{Prints}
use Rattle.shape.proofs.answer.Goals as goal

first_part : (m : ℕ) (s t ys : List ℕ) → s ≡ t ++ ys → length t ≤ m → (length t ≡ m) ⊎ (ys ≡ []) → t ≡ take m s
first_part m s t ys e short (inl full) = sym (ap (take m) e ∙ take_at t ys m full)
first_part m s t ys e short (inr none) = sym (ap (take m) (e ∙ ap (λ l. t ++ l) none ∙ append-nil t) ∙ take_all m t short)

front : (m n : ℕ) (input : List ℕ) (old new : Option (List ℕ)) → length input ≡ m → n ≤ length input → Consumes old new (take n input)
    → (n < length input → IsAtEnd new) → IfSome old (λ s. take n input ≡ take m s)
front m n input None new l w p e = tt
front m n input (Some s) None l w p e = absurd p
front m n input (Some s) (Some ys) l w p e =
    let size = length-take-le n input w in
    first_part m s (take n input) ys p (omega (arith, size)) (⊎_elim (λ all. inl (omega (arith, size))) (λ less. inr (e less)) (eq-or-lt_of_le w))

pub returns : goal.returns
returns g c =
    let p = c.put_printed-size.ensures in
    let n = c.in_ok-count.count in
    let input = c.read_front.new.input in
    let old = g.R.Read.remaining c.args.reader.now in
    let new = g.R.Read.remaining c.read_front.new.reader in
    let lines : take c.put_printed-size.result c.put_printed-size.new.out ≡ p.lines =
    ap (take c.put_printed-size.result) p.output ∙ take-append-le _ p.lines _ (omega (arith, p.size)) ∙ ap (λ k. take k p.lines) p.size ∙ take-length p.lines in
    on_ok_weaker c.write_all.result
    (λ w. IfSome_then old (front 207 n input old new (search rules) c.in_ok-count.ensures.within c.in_ok-count.ensures.bytes c.in_ok-count.ensures.end)
    (λ s e. (p.lines, subst (λ b. Prints b p.lines) (search rules) p.prints, subst (Appends _ _) lines w)))
    c.write_all.ensures.bytes
