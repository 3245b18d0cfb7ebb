-- What callers believe, in the order to read it. What pictures show is said by the crates below.
pub mod Reading
pub mod Pages
-- Below this line stands what only serves the proofs of the bodies.
pub mod Puts
