-- What the way through a range of candidates keeps and gives back. Assumes nothing: these are definitions.
use Rattle.std.specs.Prelude.{◌≡◌, List, ℕ, ◌<◌, ◌≤◌, Option, None, Some, IfSome}
use Rattle.std.specs.Option.{unwrap_or}
use Rattle.logic.specs.Candidates.{total}
use Rattle.logic.specs.declared.Profile.TheVariants.{Strong}
use Rattle.logic.specs.Table.{tree}
use Rattle.cells.specs.Cells.{cells, Barred}
use Rattle.judge.specs.declared.Setting.{Setting}
use Rattle.judge.specs.Setting.{stack_of, Ready}
use Rattle.candidates.specs.declared.Candidate.{Candidate}
use Rattle.candidates.specs.Counter.{WithinBounds, number}
use Rattle.skips.specs.Blocks.{weight, after}
use Rattle.skips.specs.Ranges.{Passed, Gives, Reply, nothing, numbered}
use Rattle.rootfacts.specs.RootFacts.{Facts}
use Rattle.sweep.specs.declared.Found.{Found}

-- the candidate c is one of the bounds v and n, and has number i
pub record At (v n i : ℕ) (c : Candidate) : Type 0 where
  pub range : WithinBounds c
  pub vars : c.vars ≡ v
  pub locs : c.locs ≡ n
  pub number_is : number c ≡ i

-- j, and 0 where there is none: the digits that go free where a block is passed over at level j, or the candidate was judged
abbrev pub low_of : Option ℕ → ℕ
low_of j = unwrap_or j 0

-- what code gives back: a candidate's number, if there is one
abbrev pub reply_from : Option Found → Reply
reply_from None = nothing
reply_from (Some r) = numbered r.number

-- the way through the candidates from `from` to `to` has come to candidate c with number i, or is at its end; the lowest of P is not
-- in what lies behind
pub record Going (v n : ℕ) (P : ℕ → Type 0) (from to i : ℕ) (c : Candidate) : Type 0 where
  pub range : WithinBounds c
  pub vars : c.vars ≡ v
  pub locs : c.locs ≡ n
  pub number_is : i < to → number c ≡ i
  pub from_on : from ≤ i
  pub passed : (e : ℕ) → e ≤ i → e ≤ to → Passed P (total v n) from e

-- r is what the way through gives back
pub record Given (v n : ℕ) (P : ℕ → Type 0) (from to : ℕ) (r : Option Found) : Type 0 where
  pub reply : Gives P (total v n) from to (reply_from r)
  pub at : IfSome r (λ x. At v n x.number x.at)

-- b is the setting of candidate c, which has number `from`, for node k of the table f; t has the facts of node k with c's stack, and
-- u is the set of its unnamed locations; the candidates up to `to` have that stack
pub record Facing (f : List ℕ) (b : Setting) (k : ℕ) (t : List ℕ) (u : ℕ) (c : Candidate) (from to : ℕ) : Type 0 where
  pub ready : Ready f b k
  pub facts : Facts b.locs (tree f k) (stack_of b) t
  pub unnamed : Barred Strong b.vars b.locs (stack_of b) u
  pub start : At b.vars b.locs from c
  pub stack : cells c.stack ≡ stack_of b
  pub same : to ≤ after (weight b.locs b.locs) from
  pub inside : to ≤ total b.vars b.locs
