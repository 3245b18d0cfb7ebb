-- What callers believe, in the order to read it: positions of ones, assignments that fit a shape, the inequalities of clocks and needs in
-- their order, words of positions, how long they are, laws that join these, and how many items wait in one buffer.
pub mod Index
pub mod Fitting
pub mod Rows
pub mod Inequalities
pub mod WordOf
pub mod Writing
pub mod Laws
pub mod Sized
-- what follows only serves proofs of bodies
pub mod Turning
pub mod Added
pub mod Marking
