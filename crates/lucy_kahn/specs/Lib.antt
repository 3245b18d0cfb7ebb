-- What callers believe, in the order to read it: the instances and places of a program, their numbers of items, the Kahn meaning, items up
-- to an instant, horizons, and the numbers of instance places, by which they are places of lucy_stream; what
-- the laws say; what an interpretation comes to, and what a turn gives.
pub mod Spots
pub mod Sizes
pub mod Kahn
pub mod Items
pub mod Horizons
pub mod Numbers
pub mod Laws
pub mod Outcomes
pub mod Turns
-- Below this line stands what only serves the proofs of the bodies.
pub mod Below
pub mod Instances
pub mod Views
