-- What proofs/SaysLaws speaks of. Assumes nothing: these are definitions.

-- each follows from the other
pub record Iff (P Q : Type 0) : Type 0 where
  pub to : P → Q
  pub from : Q → P
