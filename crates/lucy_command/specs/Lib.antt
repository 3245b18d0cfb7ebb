-- What callers believe, in the order to read it: the names and options, the parts that words are, the command that they name, and
-- the command that the call gives.
pub mod Names
pub mod Parts
pub mod Commands
pub mod Named
-- What only serves the proof of the body.
pub mod Seen
