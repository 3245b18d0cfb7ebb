-- What callers believe, in the order to read it: the generated program and its input, the figures, the run of which they tell, and
-- a law of it.
pub mod Text
pub mod Figures
pub mod Owes
pub mod Laws
-- Below this line stands what only serves the proofs of the bodies.
pub mod Blocks
