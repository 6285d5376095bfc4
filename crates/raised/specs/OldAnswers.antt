-- What it means that this bench gives a book the answers of a bench with lower bounds. Assumes nothing: these are definitions.
use Rattle.std.specs.Prelude.{List, ◌↔◌, ℕ}
use Rattle.logic.specs.declared.Profile.{Profile}
use Rattle.logic.specs.declared.Answer.{Answer}
use Rattle.logic.specs.Book.{ReadsWithin, Reads, AcceptedWithin, Accepted}
use Rattle.logic.specs.Model.{JudgesWithin, Judges}
use Rattle.logic.specs.Search.{SearchesWithin, Searches}
use Rattle.rows.specs.Output.{EncodesWithin, Encodes}
use Rattle.rows.specs.Assigned.{AssignsWithin, Assigns}
use Rattle.writing.specs.Writing.{ExportsWithin, Exports}
use Rattle.print.specs.Prints.{PutsPrintedWithin, PutsPrinted}

-- every call that takes a book: the bench whose bounds go up to k and this one accept the book s alike, and the statements of
-- their calls allow the same results. `Body` and `Placed` are the same in every bench: they don't name the bounds.
pub record OldAnswers (k : ℕ) (s : List ℕ) : Type 0 where
  pub accepted : AcceptedWithin k s ↔ Accepted s
  pub read : (a : Answer) → ReadsWithin k s a ↔ Reads s a
  pub judge : (π : Profile) (m : List ℕ) (a : Answer) → JudgesWithin k π s m a ↔ Judges π s m a
  pub search : (π : Profile) (b : ℕ) (o : List ℕ) (a : Answer) (o' : List ℕ) → SearchesWithin k π s b o a o' ↔ Searches π s b o a o'
  pub encode : (π : Profile) (o : List ℕ) (a : Answer) (o' : List ℕ) → EncodesWithin k π s o a o' ↔ Encodes π s o a o'
  pub assign : (π : Profile) (q : List ℕ) (a : Answer) → AssignsWithin k π s q a ↔ Assigns π s q a
  pub export : (o : List ℕ) (a : Answer) (o' : List ℕ) → ExportsWithin k s o a o' ↔ Exports s o a o'
  pub print : (o : List ℕ) (r : ℕ) (o' : List ℕ) → PutsPrintedWithin k s o r o' ↔ PutsPrinted s o r o'

-- the most that v, n and p could be before request 13
abbrev pub former_most : ℕ
former_most = 6
