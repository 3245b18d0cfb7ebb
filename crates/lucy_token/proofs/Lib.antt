mod Bounds
mod Comments
pub mod ContentLaws
pub mod ScanLaws
mod CutSteps
pub mod FollowLaws
pub mod FrontLaws
mod MarkSteps
mod NameLaws
mod Numbers
pub mod OneCut
pub mod SomeCut
pub mod WordFronts
pub mod FormFronts
pub mod WordLaws
mod OldTexts
pub mod WrittenLaws
pub mod PrintFronts
pub mod PrintEnds
pub mod PrintLaws
mod Rows
pub mod WordAgain
pub mod StateLaws
