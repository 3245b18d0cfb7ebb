-- What callers believe, in the order to read it.
pub mod CommandLine
pub mod Asks
-- Below this line stands what only serves the proofs of the bodies.
pub mod Saying
