pub mod TermLaws
pub mod AllLaws
mod Rows
