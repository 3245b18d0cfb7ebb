-- What callers believe, in the order to read it.
pub mod Meets
pub mod Shown
pub mod Owes
pub mod Looks
-- Below this line stands what only serves the proofs of the bodies.
pub mod Failures
