-- The answer of a search that ended or is refused. Assumes nothing: this is a definition.
use Rattle.std.specs.Prelude.{Result, Ok, Err}
use Rattle.logic.specs.declared.Answer.{Answer}
use Rattle.leaves.specs.declared.Refusal.{Refusal}
use Rattle.leaves.specs.Refusals.{refused}
use Rattle.hunt.specs.declared.Ended.{Ended}
use Rattle.hunt.specs.Hunt.{told}

abbrev pub said : Result Ended Refusal → Answer
said (Ok e) = told e
said (Err r) = refused r
