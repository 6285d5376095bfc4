-- `words::begun` meets its contract. Assumes nothing.
use mathlib.Core.Path.{◌≡◌, refl, sym, subst}
use lib.ListN.{get_or}
use Prim.Native.Nat.{ℕ}
use native.Mathlib.Omega.{arith}
use Rattle.std.specs.Prelude.{Some}
use Rattle.grammar.specs.Machine.{begun}
use Rattle.grammar.specs.Phrase.{Word, joins, denies, relates, spelling}
use Rattle.grammar.specs.Phrase.Join.{and_word, or_word, sep_word, wand_word}
use Rattle.grammar.specs.Phrase.Atom.{equal_word, distinct_word, pto_word, ls_word}
use Rattle.words.specs.declared.Join.TheVariants.{And, Or, Sep, Wand}
use Rattle.words.specs.declared.Atom.TheVariants.{Equal, Distinct, Pto, Ls}
use Rattle.words.specs.declared.ListWord.TheVariants.{Join as Joins, Not, Atom as Relates}
use Rattle.words.specs.Words.{Begins}
use Rattle.words.specs.WordLaws.{no_first}
use Rattle.words.proofs.begun.Goals as goal

pub returns-in-97 : goal.returns-in-97
unfolding begun
returns-in-97 c = subst (λ (b : ℕ). Begins b (Some (Joins And))) (sym c.in-97.is) (λ σ. refl)

pub returns-in-111 : goal.returns-in-111
unfolding begun
returns-in-111 c = subst (λ (b : ℕ). Begins b (Some (Joins Or))) (sym c.in-111.is) (λ σ. refl)

pub returns-in-115 : goal.returns-in-115
unfolding begun
returns-in-115 c = subst (λ (b : ℕ). Begins b (Some (Joins Sep))) (sym c.in-115.is) (λ σ. refl)

pub returns-in-119 : goal.returns-in-119
unfolding begun
returns-in-119 c = subst (λ (b : ℕ). Begins b (Some (Joins Wand))) (sym c.in-119.is) (λ σ. refl)

pub returns-in-110 : goal.returns-in-110
unfolding begun
returns-in-110 c = subst (λ (b : ℕ). Begins b (Some Not)) (sym c.in-110.is) (λ σ. refl)

pub returns-in-61 : goal.returns-in-61
unfolding begun
returns-in-61 c = subst (λ (b : ℕ). Begins b (Some (Relates Equal))) (sym c.in-61.is) (λ σ. refl)

pub returns-in-100 : goal.returns-in-100
unfolding begun
returns-in-100 c = subst (λ (b : ℕ). Begins b (Some (Relates Distinct))) (sym c.in-100.is) (λ σ. refl)

pub returns-in-112 : goal.returns-in-112
unfolding begun
returns-in-112 c = subst (λ (b : ℕ). Begins b (Some (Relates Pto))) (sym c.in-112.is) (λ σ. refl)

pub returns-in-108 : goal.returns-in-108
unfolding begun
returns-in-108 c = subst (λ (b : ℕ). Begins b (Some (Relates Ls))) (sym c.in-108.is) (λ σ. refl)

pub returns-in_default : goal.returns-in_default
returns-in_default c = no_first c.args.b go
  where
    go : (w : Word) → ¬ (c.args.b ≡ get_or (spelling w) 0 0)
    go (joins and_word) = (λ e. omega arith)
    go (joins or_word) = (λ e. omega arith)
    go (joins sep_word) = (λ e. omega arith)
    go (joins wand_word) = (λ e. omega arith)
    go denies = (λ e. omega arith)
    go (relates equal_word) = (λ e. omega arith)
    go (relates distinct_word) = (λ e. omega arith)
    go (relates pto_word) = (λ e. omega arith)
    go (relates ls_word) = (λ e. omega arith)
