-- What callers believe: a runner as contracts see it, which worker has which actors, and its rings by their two ends; what a round and a
-- block make of it; and, for turns that a caller makes, what they leave of the workers.
pub mod Views
pub mod Homes
pub mod Rings
pub mod Rounds
pub mod Blocks
pub mod Finishing
-- what only serves the proofs
pub mod Crews
pub mod Standing
pub mod Turns
pub mod Making
pub mod Seats
pub mod Growths
pub mod Left
