pub mod ListLaws
pub mod NodeLaws
