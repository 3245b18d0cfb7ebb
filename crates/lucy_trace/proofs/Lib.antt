pub mod CatchingLaws
pub mod RunLaws
pub mod TraceLaws
mod RoundLaws
mod FollowingLaws
