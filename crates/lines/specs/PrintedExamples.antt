-- What is printed for P1's answer and model, byte for byte as document 01 has it. Assumes nothing.
use Rattle.std.specs.Prelude.{◌≡◌, refl, List, ◌∷◌, ℕ}
use Rattle.logic.specs.Numbers.{yes_number}
use Rattle.logic.specs.Search.{searched}
use Rattle.put.specs.Decimal.{digits, decimal, numbered}
use Rattle.lines.specs.Printed.{first_line, spaced, listed, line, printed_value, printed_model, printed}
use Rattle.lines.specs.Shown.{p1_shown}

-- the bytes of the model's output that are behind the model change nothing
pub p1_printed : (rest : List ℕ) → printed (searched yes_number 6) 1 1 (1 ∷ 1 ∷ rest) ≡ p1_shown
unfolding digits decimal numbered first_line spaced listed line printed_value printed_model printed
p1_printed rest = refl
