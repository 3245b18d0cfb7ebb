-- What a run owes, in the order to read it: how it goes, what main is fed, what stands on the output and how a run ends, what the replay of a
-- log and a trace owe, what a call leaves, what an engine plays, laws, and a run from block to block.
pub mod Paces
pub mod Feeds
pub mod Owes
pub mod Replays
pub mod Tracing
pub mod Ends
pub mod Calls
pub mod Engines
pub mod Laws
pub mod Courses
-- Below this line stands what only serves the proofs of the bodies.
pub mod Begun
pub mod Steps
pub mod Played
