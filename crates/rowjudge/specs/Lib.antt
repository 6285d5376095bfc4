pub mod Setting
pub mod RowLaws
pub mod SettingLaws
pub mod NodeLaws
