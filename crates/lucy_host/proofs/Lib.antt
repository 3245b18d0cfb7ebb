pub mod Elements
pub mod NumberLaws
pub mod OpLaws
pub mod OpsLaws
pub mod Answering
pub mod ListsLaws
pub mod ShiftLaws
mod Rows
