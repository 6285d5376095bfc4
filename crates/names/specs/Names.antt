-- The names so far, as the code holds them, and what numbering one more gives. Assumes nothing: these are definitions.
use Rattle.std.specs.Prelude.{◌≡◌, Bool, false, Option, None, Some, Result, Ok, Err, List, map, ℕ, suc, ◌≤◌, ◌<◌, length, take}
use Rattle.grammar.specs.Steps.{onward}
use Rattle.logic.specs.Numbers.{yes_number}
use Rattle.logic.specs.Book.{most}
use Rattle.leaves.specs.declared.Refusal.{Refusal}
use Rattle.leaves.specs.Refusals.{refused as told}
use Rattle.grammar.specs.Phrase.{Term}
use Rattle.grammar.specs.Machine.{Frame, Spot, arg, termed}
use Rattle.grammar.specs.Places.{known, note}
use Rattle.grammar.specs.Meaning.{note_term, position, number_of}
use Rattle.grammar.specs.Outcome.{outcome, refused}
use Rattle.terms.specs.Letters.{letters_of}
use Rattle.terms.specs.Terms.{last_of}
use Rattle.names.specs.declared.Names.{Names}

-- the letters of each name, and how many names there are
abbrev pub names : (l : List ℕ) (k : ℕ) → length l ≡ most → k ≤ most → Names
names l k h f = record { letters = l; count = k; long = h; few = f }

-- the first k of the names that the numbers hold
abbrev pub names_in : List ℕ → ℕ → List (List ℕ)
names_in l k = map letters_of (take k l)

-- the names so far
abbrev pub held : Names → List (List ℕ)
held n = names_in n.letters n.count

pub record Fine (n : Names) : Type 0 where
  pub long : length n.letters ≡ most
  pub few : n.count ≤ most

-- the name x, after the names n: its number v, and the names m with it; or there is none, and it is one too many
pub record NotedIs (n : Names) (x : List ℕ) (r : Option ℕ) (m : Names) : Type 0 where
  pub over : r ≡ None → (known (held n) x ≡ false) × (length (held n) ≡ most)
  pub fine : Fine m
  pub noted : (v : ℕ) → r ≡ Some v → held m ≡ note (held n) x
  pub number : (v : ℕ) → r ≡ Some v → v ≡ suc (position (held m) x)
  pub under : (v : ℕ) → r ≡ Some v → ¬ ((known (held n) x ≡ false) × (length (held n) ≡ most))

-- number 0: a term ends before `at`, with its variable; else the refusal's number, and its place
pub record Taken : Type 0 where
  pub number : ℕ
  pub at : ℕ
  pub variable : ℕ

abbrev pub taken : Result (ℕ × ℕ) Refusal → Taken
taken (Ok (i, v)) = record { number = yes_number; at = i; variable = v }
taken (Err x) = record { number = (told x).number; at = (told x).place; variable = 0 }

module _ (s : List ℕ) (last : Bool) (i : ℕ) (n : Names) where
  -- a term is read from i on, and is numbered; m are the names with it
  pub record Took (r : Taken) (m : Names) : Type 0 where
    pub term : Term
    pub from : i < r.at
    pub inside : r.at ≤ length s
    pub fine : Fine m
    pub noted : held m ≡ note_term (held n) term
    pub number : r.variable ≡ number_of (held m) term
    pub goes : (k : ℕ) (t : Spot) → last_of t ≡ last → (σ : List Frame)
        → outcome (held n) k (onward s (arg t σ) i) ≡ outcome (held m) k (onward s (termed term t σ) r.at)

  pub record OperandIs (r : Taken) (m : Names) : Type 0 where
    pub took : r.number ≡ 0 → Took r m
    pub refuses : ¬ (r.number ≡ 0) → (k : ℕ) (t : Spot) → last_of t ≡ last → (σ : List Frame) → outcome (held n) k (onward s (arg t σ) i) ≡ refused r.number r.at
