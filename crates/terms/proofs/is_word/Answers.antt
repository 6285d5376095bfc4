-- `terms::is_word` meets its contract. Assumes nothing.
use native.Mathlib.Omega.{arith}
use mathlib.Core.Path.{◌≡◌}
use Rattle.std.proofs.Common.{inl, inr}
use Rattle.grammar.specs.Phrase.{Word, joins, denies, relates, spelling}
use Rattle.grammar.specs.Phrase.Join.{and_word, or_word, sep_word, wand_word}
use Rattle.grammar.specs.Phrase.Atom.{equal_word, distinct_word, pto_word, ls_word}
use Rattle.terms.specs.Letters.{packed}
use Rattle.terms.specs.LetterLaws.{word_held, no_word_held}
use Rattle.terms.proofs.is_word.Goals as goal

pub returns-in-6385252 : goal.returns-in-6385252
returns-in-6385252 c =
    let w = c.args.w in
    elim c.in-6385252.is [
      | inl e ↦ word_held (relates equal_word) w e
      | inr (inl e) ↦ word_held (relates ls_word) w e
      | inr (inr (inl e)) ↦ word_held (joins or_word) w e
      | inr (inr (inr (inl e))) ↦ word_held (joins and_word) w e
      | inr (inr (inr (inr (inl e)))) ↦ word_held denies w e
      | inr (inr (inr (inr (inr (inl e))))) ↦ word_held (relates pto_word) w e
      | inr (inr (inr (inr (inr (inr (inl e)))))) ↦ word_held (joins sep_word) w e
      | inr (inr (inr (inr (inr (inr (inr (inl e))))))) ↦ word_held (joins wand_word) w e
      | inr (inr (inr (inr (inr (inr (inr (inr e))))))) ↦ word_held (relates distinct_word) w e
    ]

pub returns-in_default : goal.returns-in_default
returns-in_default c = no_word_held c.args.w go
  where
    go : (v : Word) → ¬ (c.args.w ≡ packed (spelling v))
    go (joins and_word) = (λ e. grind arith)
    go (joins or_word) = (λ e. grind arith)
    go (joins sep_word) = (λ e. grind arith)
    go (joins wand_word) = (λ e. grind arith)
    go denies = (λ e. grind arith)
    go (relates equal_word) = (λ e. grind arith)
    go (relates distinct_word) = (λ e. grind arith)
    go (relates pto_word) = (λ e. grind arith)
    go (relates ls_word) = (λ e. grind arith)
