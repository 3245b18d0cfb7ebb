pub mod OneAnswer
pub mod Refusing
pub mod SizeLaws
mod AtLeast
mod OneTightest
mod WorkedRows
mod Smallness
mod BufferLaws
mod OneTightening
mod PrintedLaws
mod WellLaws
mod TellLaws
mod ReportLaws
