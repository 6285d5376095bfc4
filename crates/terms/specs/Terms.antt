-- What the readers of terms find. Assumes nothing: these are definitions.
use Rattle.std.specs.Prelude.{◌≡◌, Bool, true, false, List, ℕ, ◌+◌, ◌-◌, ◌≤◌, ◌<◌, Option, Result, Ok, Err, length, get_or}
use Rattle.grammar.specs.Steps.{onward}
use Rattle.logic.specs.Reflect.{Is}
use Rattle.grammar.specs.Phrase.{bytes, nil_term, letter}
use Rattle.grammar.specs.Grammar.{seen}
use Rattle.grammar.specs.Machine.{Frame, Spot, start, later, arg, name, nil, termed, bad, emits}
use Rattle.grammar.specs.Forward.{Behind}
use Rattle.terms.specs.Letters.{letters_of, term_of}
use Rattle.words.specs.declared.BadText.{BadText}

-- a term that stands there is its list's last
abbrev pub last_of : Spot → Bool
last_of (start c) = false
last_of (later c y) = true

module _ (s : List ℕ) where
  -- the letters w go on from i up to j, where a byte stands that is no letter
  abbrev pub LettersIs : ℕ → ℕ → Result (ℕ × ℕ) BadText → Type 0
  LettersIs w i (Ok (j, x)) =
      (i ≤ j) × (j < length s) × (0 < x) × (letter (get_or s j 0) ≡ false) × (j + length (letters_of w) ≡ i + length (letters_of x))
      × ((t : Spot) (σ : List Frame) → onward s (name (letters_of w) t σ) i ≡ onward s (name (letters_of x) t σ) j)
  LettersIs w i (Err p) = (t : Spot) (σ : List Frame) → onward s (name (letters_of w) t σ) i ≡ bad p.at

  -- in such a spot
  module _ (last : Bool) where
    -- a term may end before i
    abbrev pub EndsIs : ℕ → Bool → Type 0
    EndsIs i r = (t : Spot) → last_of t ≡ last → Is r (Behind s t i)

    -- `nil` of `sep.nil` from i up to j
    abbrev pub NilIs : ℕ → Result ℕ BadText → Type 0
    NilIs i (Ok j) =
        (i < j) × (j ≤ length s)
        × ((t : Spot) → last_of t ≡ last → (σ : List Frame) → onward s (nil (bytes "nil") t σ) i ≡ onward s (termed nil_term t σ) j)
    NilIs i (Err p) = (t : Spot) → last_of t ≡ last → (σ : List Frame) → onward s (nil (bytes "nil") t σ) i ≡ bad p.at

    -- the term whose letters w end before i, or `sep.nil`, ends before j
    abbrev pub EndedIs : ℕ → ℕ → Result (ℕ × Option ℕ) BadText → Type 0
    EndedIs w i (Ok (j, x)) =
        (i ≤ j) × (j ≤ length s)
        × ((t : Spot) → last_of t ≡ last → (σ : List Frame)
        → onward s (name (letters_of w) t σ) i ≡ emits (seen (term_of x) (i - length (letters_of w)) j) (onward s (termed (term_of x) t σ) j))
    EndedIs w i (Err p) = (t : Spot) → last_of t ≡ last → (σ : List Frame) → onward s (name (letters_of w) t σ) i ≡ bad p.at

    -- a term from i up to j
    abbrev pub TermIs : ℕ → Result (ℕ × Option ℕ) BadText → Type 0
    TermIs i (Ok (j, x)) =
        (i < j) × (j ≤ length s)
        × ((t : Spot) → last_of t ≡ last → (σ : List Frame) → onward s (arg t σ) i ≡ emits (seen (term_of x) i j) (onward s (termed (term_of x) t σ) j))
    TermIs i (Err p) = (t : Spot) → last_of t ≡ last → (σ : List Frame) → onward s (arg t σ) i ≡ bad p.at
