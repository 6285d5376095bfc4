pub mod AssignedLaws
pub mod ModelOfLaws
pub mod BytesOfLaws
pub mod Solutions
