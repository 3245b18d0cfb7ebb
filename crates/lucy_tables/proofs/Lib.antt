pub mod TableLaws
pub mod NameLaws
pub mod WordLaws
pub mod LoadingLaws
pub mod RefusalLaws
pub mod LendingLaws
pub mod EndingLaws
