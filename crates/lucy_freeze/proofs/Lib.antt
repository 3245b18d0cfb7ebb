pub mod TestLaws
pub mod Leading
pub mod KahnLaws
pub mod StreamLaws
pub mod ProgramLaws
