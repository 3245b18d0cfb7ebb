pub mod ListLaws
pub mod TypingLaws
pub mod ProgramLaws
pub mod HeadLaws
pub mod CallLaws
pub mod PortLaws
pub mod RuleLaws
pub mod GraphLaws
pub mod FloodLaws
pub mod SpreadLaws
pub mod SolveLaws
pub mod PathLaws
pub mod SolutionLaws
pub mod NodeLaws
mod Rows
