-- What callers believe, in the order to read it.
pub mod Commands
pub mod World
pub mod ProgramRefusals
pub mod InputRefusals
pub mod Answers
pub mod Fields
pub mod Order
pub mod Show
pub mod Report
pub mod Types
pub mod Check
pub mod Programs
pub mod Tighten
pub mod Endings
pub mod Running
pub mod Replaying
pub mod Owes
pub mod Ends
pub mod Right
pub mod Complete
pub mod Engines
pub mod Laws
pub mod Operators
-- What only serves the proof of the body.
pub mod Outcomes
