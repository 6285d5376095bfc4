-- What the readers of items and lists find. Assumes nothing: these are definitions.
use Rattle.std.specs.Prelude.{◌≡◌, false, Option, None, Some, Result, Ok, Err, List, ◌++◌, ◌⊎◌, ℕ, ◌+◌, ◌-◌, ◌*◌, ◌≤◌, ◌<◌, length}
use Rattle.logic.specs.Numbers.{yes_number}
use Rattle.logic.specs.Book.{most, most_nodes}
use Rattle.logic.specs.Formula.{Form}
use Rattle.leaves.specs.declared.Refusal.{Refusal}
use Rattle.leaves.specs.declared.Refusal.TheVariants.{BadText as bad_text, ManyNodes as too_many}
use Rattle.leaves.specs.Refusals.{refused as told}
use Rattle.grammar.specs.Phrase.{Phrase}
use Rattle.grammar.specs.Machine.{Frame, Mode, past}
use Rattle.grammar.specs.Steps.{onward}
use Rattle.grammar.specs.Listing.{size_of, listing}
use Rattle.grammar.specs.Meaning.{collect, number_of, form_of}
use Rattle.grammar.specs.Outcome.{outcome, refused}
use Rattle.words.specs.Words.{ShutIs}
use Rattle.words.specs.declared.BadText.{BadText}
use Rattle.names.specs.Names.{names as names_of, held, Fine as FineNames}
use Rattle.draft.specs.Drafts.{bytes_in, Ready}
use Rattle.items.specs.declared.Draft.{Draft}

-- what has been read so far: the nodes in their table, and the names
abbrev pub draft : (t : List ℕ) (n : ℕ) → length t ≡ 3 * most_nodes → n ≤ most_nodes → (l : List ℕ) (k : ℕ) → length l ≡ most → k ≤ most → Draft
draft t n h f l k i g = record { nodes = record { table = t; count = n; long = h; few = f }; names = names_of l k i g }

pub record Fine (d : Draft) : Type 0 where
  pub ready : Ready d.nodes
  pub names : FineNames d.names

-- a number, a place, and the draft there
pub record Step : Type 0 where
  pub number : ℕ
  pub at : ℕ
  pub draft : Draft

abbrev pub step : Result ℕ Refusal → Draft → Step
step (Ok i) d = record { number = yes_number; at = i; draft = d }
step (Err x) d = record { number = (told x).number; at = (told x).place; draft = d }

-- an item that ends before i; there are no nodes where they are too many, and then it is refused at its last byte
pub record FinishedIs (i : ℕ) (n : Option (Unit {0})) (r : Result ℕ Refusal) : Type 0 where
  pub passes : n ≡ None → r ≡ Err (too_many (i - 1))
  pub done : n ≡ Some tt → r ≡ Ok i

-- a list whose closing bracket is awaited from i on: it is finished behind the bracket, or refused where that is missed
abbrev pub ClosedIs : List ℕ → ℕ → Option (Unit {0}) → Result ℕ Refusal → Type 0
ClosedIs s i n r =
    ((e : ℕ) × ShutIs s i (Ok e) × FinishedIs e n r)
    ⊎ ((p : BadText) × ShutIs s i (Err p) × (r ≡ Err (bad_text p.at)))

-- the formula that a phrase is, over the names so far
abbrev pub form_in : Draft → Phrase → Form
form_in d F = form_of (number_of (held d.names)) F

-- the bytes of the nodes so far
abbrev pub bytes_of : Draft → List ℕ
bytes_of d = bytes_in d.nodes

-- from i on, with the machine in the mode m inside so many lists, after the draft d
module _ (s : List ℕ) (m : List Frame → Mode) (depth i : ℕ) (d : Draft) where
  -- a formula is read: its names and nodes stand behind those of d, and the machine goes on behind it
  pub record Read (r : Step) : Type 0 where
    pub phrase : Phrase
    pub from : i < r.at
    pub inside : r.at ≤ length s
    pub fine : Fine r.draft
    pub names : held r.draft.names ≡ collect (held d.names) phrase
    pub nodes : r.draft.nodes.count ≡ d.nodes.count + size_of (form_in r.draft phrase)
    pub bytes : bytes_of r.draft ≡ bytes_of d ++ listing d.nodes.count (form_in r.draft phrase)
    pub goes : (σ : List Frame) → length σ ≡ depth
        → outcome (held d.names) d.nodes.count (onward s (m σ) i) ≡ outcome (held r.draft.names) r.draft.nodes.count (onward s (past false phrase σ) r.at)

  -- or the text is refused with this number at this place
  pub record ReadIs (r : Step) : Type 0 where
    pub read : r.number ≡ 0 → Read r
    pub refuses : ¬ (r.number ≡ 0) → (σ : List Frame) → length σ ≡ depth → outcome (held d.names) d.nodes.count (onward s (m σ) i) ≡ refused r.number r.at
