-- what callers believe, in the order to read it: when a program is another one with its clocks written out, what is answered, and what such
-- programs mean
pub mod Frozen
pub mod Freezing
pub mod Meaning
-- Below this line stands what only serves the proofs of the bodies.
pub mod Images
pub mod Compared
