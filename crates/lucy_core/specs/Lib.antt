-- What callers believe: a core as contracts see it, its events, and the state that they lead to.
pub mod Seen
pub mod Laws
-- what only serves the proofs
pub mod Circles
pub mod Cursors
pub mod Inside
