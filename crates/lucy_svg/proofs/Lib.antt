mod OneLaws
mod JoinLaws
mod FlowLaws
mod ToldLaws
pub mod EscapeLaws
mod SheetLaws
