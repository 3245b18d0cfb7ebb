-- What callers believe, in the order to read it: what a folded line stands for, which clocks are one stream, how evidence is folded, what
-- an explanation begins with and where what it tells stands, which chain says why a position is as late as it is, and how long items wait.
pub mod Folds
pub mod Streams
pub mod Folded
pub mod Begins
pub mod Spans
pub mod Chains
pub mod Waits
-- Below this line stands what only serves the proofs of the bodies.
pub mod Joining
