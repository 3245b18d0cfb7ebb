pub mod AtEarliest
pub mod OneAnswer
pub mod Steps
