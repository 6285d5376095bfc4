pub mod NodeFacts
pub mod NodeLaws
pub mod RootFacts
pub mod RootLaws
