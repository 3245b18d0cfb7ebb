-- What callers believe, in the order to read it: a worker as contracts see it, its parts, a turn, meetings, new parts, rounds and growth.
pub mod Views
pub mod Parts
pub mod News
pub mod Turns
pub mod Meets
pub mod Rounds
pub mod Growing
pub mod Laws
-- what only serves the proofs
pub mod Readiness
