-- What callers believe: what a text is refused for.
pub mod Refusals
-- what only serves the proofs
pub mod Piles
pub mod Levels
