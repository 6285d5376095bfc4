pub mod ModelOf
pub mod BytesOf
pub mod Solutions
