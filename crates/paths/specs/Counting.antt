-- How many locations are allocated, as code counts them, and that no path has more links. Assumes nothing.
use Rattle.std.specs.Prelude.{◌≡◌, refl, Bool, true, false, not, ℕ, zero, suc, ◌+◌, ◌/◌, ◌%◌, ◌^◌, ◌<◌, ◌≤◌, eqb}
use Rattle.std.proofs.Common.{sym, ◌∙◌, ap, arith}
use Rattle.logic.specs.Heap.{Map, Heap}
use Rattle.logic.specs.Tests.{pick, all, digit, in_part}
use Rattle.logic.specs.Digits.{num_of}
use Rattle.logic.specs.Paths.{NoLongPath}
use Rattle.logic.specs.PathLaws.{size}
use Rattle.logic.proofs.PathLaws.{path_size}
use Rattle.logic.specs.Reflect.{Is}
use Rattle.logic.proofs.Reflect.{is_eq, is_all}
use Rattle.cells.specs.Cells.{most, full, word, cells}
use Rattle.cells.specs.Taken.{tops_of, tops_for, set_of, set_taken, tops_are}

-- a heap with a cell at each location of the part m
abbrev cells_at : ℕ → Map
cells_at m ℓ = pick (in_part m ℓ) 1 0

count_all : all full (λ m. eqb (tops_for m / 2 ^ 7 % 255) (size most (cells_at m))) ≡ true
unfolding all num_of in_part digit size
count_all = refl

size_same : (n : ℕ) (g h : Map) → ((ℓ : ℕ) → eqb (g ℓ) 0 ≡ eqb (h ℓ) 0) → size n g ≡ size n h
unfolding size
size_same zero g h e = refl
size_same (suc n) g h e = rw (e (suc n)) (ap (λ (x : ℕ). x + pick (eqb (h (suc n)) 0) 0 1) (size_same n g h e))

free_at : (b c : Bool) → b ≡ not c → eqb (pick b 1 0) 0 ≡ c
free_at true true e = sym e
free_at true false e = refl
free_at false true e = refl
free_at false false e = sym e

pub count_law : (w : ℕ) → w < word → Heap most (cells w) → tops_of w / 2 ^ 7 % 255 ≡ size most (cells w)
count_law w h k =
    ap (λ (x : ℕ). x / 2 ^ 7 % 255) (tops_are w h k)
    ∙ (is_all (λ m. eqb (tops_for m / 2 ^ 7 % 255) (size most (cells_at m))) (λ m. tops_for m / 2 ^ 7 % 255 ≡ size most (cells_at m)) full (λ m _. is_eq (tops_for m / 2 ^ 7 % 255) (size most (cells_at m)))).to count_all (set_of w h k) (set_taken w h k).small
    ∙ size_same most (cells_at (set_of w h k)) (cells w) (λ ℓ. free_at (in_part (set_of w h k) ℓ) (eqb (cells w ℓ) 0) ((set_taken w h k).member ℓ))

-- no more cells than p, no path of more links
pub few_short : (p w c : ℕ) → Heap most (cells w) → c ≡ size most (cells w) → c ≤ p → Is true (NoLongPath p (cells w))
few_short p w c k e l = record { to = λ _ i m q. absurd (omega (arith, path_size most i (cells w) k q)); from = λ _. refl }
