-- What callers believe, in the order to read it: the fields of a text, what a field's number is, and what fields are read as.
pub mod Fields
pub mod Numbers
pub mod Readings
-- Below this line stands what only serves the proofs of the bodies.
pub mod Steps
