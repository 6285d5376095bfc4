-- A candidate fits exactly if the one with two locations exchanged does. Assumes nothing.
use Rattle.std.specs.Prelude.{◌↔◌, ℕ, ◌≤◌}
use Rattle.logic.specs.declared.Profile.{Profile}
use Rattle.logic.specs.Formula.{Form}
use Rattle.logic.specs.Search.{CandidateFits}
use Rattle.laws.proofs.RenumberedAnswers.{candidate_renumbered}
use Rattle.laws.specs.Exchange.{exchange, exchanged_candidate}
use Rattle.laws.proofs.ExchangeLaws.{exchange_renumbering}

module _ (a b : ℕ) where
  module _ (n : ℕ) (la : 1 ≤ a) (ma : a ≤ n) (lb : 1 ≤ b) (mb : b ≤ n) where
    -- candidate c fits exactly if the candidate with a and b exchanged does
    pub swap_fits : (π : Profile) (v p : ℕ) (F : Form) (c : ℕ) → CandidateFits π v n p F c ↔ CandidateFits π v n p F (exchanged_candidate v n a b c)
    swap_fits π v p F c = candidate_renumbered v n (exchange a b) (exchange a b) (exchange_renumbering a b n la ma lb mb) c π p F
