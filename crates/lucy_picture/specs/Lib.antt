-- What callers believe, in the order to read it: what a chronogram shows of a node, after how many instants it comes again, where an
-- offset stands in a text, which forms stand at the places of a node, where these begin, how all this is printed,
-- and what a text holds.
pub mod Charts
pub mod Turns
pub mod Spots
pub mod Forms
pub mod Offsets
pub mod Kinds
pub mod Lines
pub mod Holding
-- Below this line stands what only serves the proofs of the bodies.
pub mod Drawn
pub mod Seeking
