pub mod Lists
pub mod Results
pub mod BitsLaws
pub mod IndexLaws
pub mod SamplingLaws
pub mod OnLaws
pub mod DelayLaws
pub mod AdaptableLaws
mod StepLaws
mod WalkLaws
pub mod Multiples
pub mod SpellingLaws
mod Repeats
pub mod ShortLaws
mod CountedLaws
mod LimbLaws
mod LimbWalk
mod PackedLaws
mod MakingLaws
pub mod ComplementLaws
mod ShortTurn
mod ShortPrefix
mod Rows
pub mod PartialLaws
pub mod Checking
mod CuttingLaws
mod DigitLaws
mod StayLaws
pub mod RunLaws
pub mod ShortenedLaws
