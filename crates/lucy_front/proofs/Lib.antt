mod SizeLaws
mod ClockedLaws
mod InferredLaws
pub mod EvidenceLaws
mod LineLaws
mod MoreClocks
mod ItemLaws
mod AcceptLaws
pub mod TellableLaws
mod OneClock
mod OneNode
mod OneUnclocked
pub mod OneAnswer
pub mod OneAccepted
mod EndLaws
mod ItemNames
mod CauseLaws
mod StreamLaws
mod ScheduledLaws
