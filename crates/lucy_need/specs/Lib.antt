-- What callers believe, in the order to read it: what a need is and when words meet it, what its own words are, and what
-- the laws say.
pub mod Meeting
pub mod Stored
pub mod Laws
