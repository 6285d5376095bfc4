-- Laws of one candidate, and of one stack: its setting, and where none of its candidates is looked at. Assumes nothing.
use Rattle.std.specs.Prelude.{◌≡◌, refl, Bool, false, List, ℕ, suc, ◌+◌, ◌%◌, ◌<◌, ◌≤◌, Option, None, Some, IfSome}
use Rattle.std.proofs.Common.{sym, subst, ◌∙◌, ap, arith}
use Rattle.logic.specs.declared.Profile.{Profile}
use Rattle.logic.specs.declared.Profile.TheVariants.{Strong}
use Rattle.logic.specs.Formula.{Form}
use Rattle.logic.specs.Table.{Sound, tree}
use Rattle.logic.specs.Reflect.{Is}
use Rattle.logic.proofs.Reflect.{false_true}
use Rattle.logic.specs.Candidates.{total}
use Rattle.logic.specs.Search.{CandidateFits}
use Rattle.cells.specs.Cells.{cells, Barred}
use Rattle.judge.specs.declared.Setting.{Setting}
use Rattle.judge.specs.Setting.{room, Ready}
use Rattle.candidates.specs.declared.Candidate.{Candidate}
use Rattle.candidates.specs.Counter.{WithinBounds, number, Next, Passes}
use Rattle.candidates.specs.PassLaws.{after_one}
use Rattle.levels.specs.Levels.{OutOfOrder}
use Rattle.skips.specs.Ranges.{Passed}
use Rattle.skips.specs.Blocks.{weight, after}
use Rattle.skips.proofs.BlockLaws.{weight_first, weight_some}
use Rattle.skips.specs.BlockFacts.{SkippableAt}
use Rattle.skips.proofs.HereLaws.{label_here}
use Rattle.rootfacts.specs.RootFacts.{digits_at, Facts}
use Rattle.rootfacts.specs.RootLaws.{hopeless_goes}
use Rattle.sweep.specs.Sweep.{low_of, Facing}
use Rattle.sweep.specs.SweepLaws.{passed_block}

-- ---- one candidate

pub low_there : (j : ℕ) → low_of (Some j) ≡ j
low_there j = refl

pub low_none : low_of None ≡ 0
low_none = refl

pub low_le : (j : Option ℕ) (k : ℕ) → IfSome j (λ x. x < k) → low_of j ≤ k
low_le None k l = omega arith
low_le (Some j) k l = omega arith

pub low_lt : (j : Option ℕ) (k m : ℕ) → IfSome j (λ x. x < k) → k ≤ m → 0 < m → low_of j < m
low_lt None k m l h z = z
low_lt (Some j) k m l h z = omega arith

-- a block is passed over: the candidate is not judged
pub is_over : (n j : ℕ) (P : Type 0) → j < n → Is false ((n ≤ j) × P)
is_over n j P l = record { to = λ e. false_true e; from = λ q. absurd (omega (arith, q.0)) }

-- none is: the judge decides
pub is_judged : (n j : ℕ) (P : Type 0) (r : Bool) → n ≤ j → Is r P → Is r ((n ≤ j) × P)
is_judged n j P r l q = record { to = λ e. (l, q.to e); from = λ y. q.from y.1 }

-- the counter's next candidate is the first after a block of one
pub next_passes : (c r : Candidate) → Next c r → Passes (weight c.locs (low_of None)) c r
next_passes c r q =
    record {
      range = q.range;
      vars = q.vars;
      locs = q.locs;
      number_is = q.number_is ∙ ap (λ (x : ℕ). x % total c.vars c.locs) (sym (after_one (weight c.locs 0) (number c) (weight_first c.locs)));
      stack_kept = q.stack_kept;
    }

-- ---- one stack

-- the setting of a candidate
abbrev pub setting : Profile → ℕ → Candidate → ℕ → Setting
setting π p c u = record { vars = c.vars; locs = c.locs; path = p; stack = c.stack; barred = u; profile = π }

ready : (π : Profile) (c : Candidate) (p : ℕ) → WithinBounds c → (f : List ℕ) (k u : ℕ) → k < room → Sound c.vars f (suc k) → Barred π c.vars c.locs (cells c.stack) u → Ready f (setting π p c u) k
ready π c p ok f k u l sound q =
    record {
      inside = l;
      sound = sound;
      few_vars = ok.few_vars;
      few_locs = ok.few_locs;
      listed = ok.few_locs;
      stack = ok.stack;
      barred = q;
    }

module _ (π : Profile) (p : ℕ) (F : Form) (c : Candidate) (ok : WithinBounds c) (from to : ℕ) (e : number c ≡ from) where
  -- a variable out of order
  pub label_passed : (x : ℕ) → x < c.vars → OutOfOrder c.stack c.vars x → to ≤ after (weight c.locs (c.locs + x)) from → Passed (CandidateFits π c.vars c.locs p F) (total c.vars c.locs) from to
  label_passed x l o h =
      passed_block c.vars c.locs (CandidateFits π c.vars c.locs p F) from to (weight c.locs (c.locs + x)) (weight_some c.locs (c.locs + x))
      (subst (λ (i : ℕ). SkippableAt π c.vars c.locs p F i (c.locs + x)) e
      (label_here π c.vars c.locs p F (cells c.stack) (cells c.heap) ok.stack ok.heap x o.top l o.tops o.over))
      h

  -- no heap fits
  pub hopeless_passed : (t : List ℕ) → Facts c.locs F (cells c.stack) t → digits_at t 0 ≡ 0 → to ≤ after (weight c.locs c.locs) from → Passed (CandidateFits π c.vars c.locs p F) (total c.vars c.locs) from to
  hopeless_passed t q z h =
      passed_block c.vars c.locs (CandidateFits π c.vars c.locs p F) from to (weight c.locs c.locs) (weight_some c.locs c.locs)
      (subst (λ (i : ℕ). SkippableAt π c.vars c.locs p F i c.locs) e
      (hopeless_goes π c.vars c.locs p F (cells c.stack) (cells c.heap) ok.stack ok.heap t q z))
      h

  -- the labels are in order
  pub facing : (f : List ℕ) (k u : ℕ) → k < room → Sound c.vars f (suc k) → Barred π c.vars c.locs (cells c.stack) u → to ≤ after (weight c.locs c.locs) from → to ≤ total c.vars c.locs → (t : List ℕ) → Facts c.locs (tree f k) (cells c.stack) t → (w : ℕ) → Barred Strong c.vars c.locs (cells c.stack) w → Facing f (setting π p c u) k t w c from to
  facing f k u lk sound bar h m t kt w kw =
      record {
        ready = ready π c p ok f k u lk sound bar;
        facts = kt;
        unnamed = kw;
        start = record { range = ok; vars = refl; locs = refl; number_is = e };
        stack = refl;
        same = h;
        inside = m;
      }
