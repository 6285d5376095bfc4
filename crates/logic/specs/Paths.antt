-- Simple paths, and the models that have none that is too long. Assumes nothing: these are definitions.
use Rattle.std.specs.Prelude.{◌≡◌, ℕ, suc, ◌<◌, ◌≤◌}
use Rattle.logic.specs.Heap.{Map, Value}

-- "a simple path (all locations different) of .. links along its own cells": k links over the locations at 0 to at k
pub record Path (k : ℕ) (h : Map) : Type 0 where
  pub at : Map
  pub link : (i : ℕ) → i < k → Value h (at i) (at (suc i))
  pub different : (i j : ℕ) → i < j → j ≤ k → ¬ (at i ≡ at j)

-- no "simple path .. of more than p links"
abbrev pub NoLongPath : ℕ → Map → Type 0
NoLongPath p h = (k : ℕ) → p < k → ¬ Path k h
