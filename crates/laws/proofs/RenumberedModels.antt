-- A model in range fits an accepted book exactly if the renumbered one does. Assumes nothing.
use Rattle.std.specs.Prelude.{List, ◌↔◌, ℕ}
use Rattle.std.proofs.Common.{sym, subst₂, arith}
use Rattle.logic.specs.declared.Profile.{Profile}
use Rattle.logic.specs.Checks.{Passes}
use Rattle.logic.specs.Heap.{Map}
use Rattle.logic.specs.Book.{book_formula, vars_of, locs_of, path_of, Accepted}
use Rattle.logic.proofs.BookLaws.{accepted_whole}
use Rattle.logic.specs.Model.{stack_in, heap_in, model_checks, Fits, FitsBook}
use Rattle.logic.proofs.CandidateLaws.{stack_in_model, heap_in_model}
use Rattle.laws.specs.Renumbering.{Renumbering, new_stack, new_heap, renumbered_model}
use Rattle.laws.proofs.RenumberedTruth.{renumbered}
use Rattle.laws.proofs.RenumberedMaps.{new_stack_in, new_heap_in}

module _ (π : Profile) (s : List ℕ) (ok : Accepted s) (to from : Map) (w : Renumbering (locs_of s) to from) (m : List ℕ) (range : Passes (model_checks (vars_of s) (locs_of s) m)) where
  pub model_renumbered : FitsBook π s m ↔ FitsBook π s (renumbered_model (vars_of s) (locs_of s) to from m)
  model_renumbered =
      let S = new_stack to (stack_in (vars_of s) m) in
      let H = new_heap to from (heap_in (vars_of s) (locs_of s) m) in
      subst₂ (λ (x y : Map). FitsBook π s m ↔ Fits π (vars_of s) (locs_of s) (path_of s) (book_formula s) x y)
      (sym (stack_in_model (vars_of s) (locs_of s) S H (new_stack_in π s ok to from w m range)))
      (sym (heap_in_model (vars_of s) (locs_of s) S H (omega (arith, (accepted_whole s ok).bounds.locs)) (new_heap_in π s ok to from w m range)))
      (renumbered π (vars_of s) (locs_of s) (path_of s) (book_formula s) to from w (stack_in (vars_of s) m) (heap_in (vars_of s) (locs_of s) m))
