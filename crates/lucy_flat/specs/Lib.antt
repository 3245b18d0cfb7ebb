-- What callers believe, in the order to read it: the words and sizes that flattening wants, the words of instances, what the
-- flat net is, how large it is, why a program has none, and what holds of every flat net.
pub mod Clocked
pub mod Instances
pub mod Flat
pub mod Counts
pub mod Refusals
pub mod Laws
-- Below this line stands what only serves the proofs of the bodies.
pub mod Extents
pub mod Drafts
pub mod Assembly
