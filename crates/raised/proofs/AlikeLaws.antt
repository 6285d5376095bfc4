-- What refuses alike answers alike. Assumes nothing.
use Rattle.std.proofs.Common.{inl, inr, ⊎_elim}
use Rattle.logic.specs.declared.Answer.{Answer}
use Rattle.logic.specs.Checks.{Checks, done, check, ◌then◌, Passes, Answers}
use Rattle.raised.specs.Alike.{Alike, no_part, part}

pub alike_same : (c : Checks) → Alike c c
alike_same done = no_part
alike_same (check P m q c) = part m q (λ p. p, λ p. p) (alike_same c)

pub alike_back : {c d : Checks} → Alike c d → Alike d c
alike_back no_part = no_part
alike_back (part m q i l) = part m q (i.1, i.0) (alike_back l)

pub alike_then : {c d x y : Checks} → Alike c d → Alike x y → Alike (c then x) (d then y)
unfolding ◌then◌
alike_then no_part k = k
alike_then (part m q i l) k = part m q i (alike_then l k)

pub alike_passes : {c d : Checks} → Alike c d → Passes c → Passes d
unfolding Passes
alike_passes no_part p = p
alike_passes (part m q i l) p = (i.0 p.0, alike_passes l p.1)

pub alike_answers : {c d : Checks} → Alike c d → (R : Answer → Type 0) (a : Answer) → Answers c R a → Answers d R a
unfolding Answers
alike_answers no_part R a u = u
alike_answers (part m q i l) R a u = ⊎_elim (λ x. inl (λ y. x.0 (i.1 y), x.1)) (λ x. inr (i.0 x.0, alike_answers l R a x.1)) u
