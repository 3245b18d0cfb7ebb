-- What callers believe, in the order to read it: which instants write and read the items of a buffer, how they go through it, by which stream a
-- place is told, how texts stand in XML, which of their letters are shown, what is told of a chronogram, and what stands in its picture.
pub mod Joins
pub mod Flows
pub mod Names
pub mod Escaping
pub mod Labels
pub mod Notes
pub mod Sheets
-- Below this line stands what only serves the proofs of the bodies.
pub mod Ones
pub mod Telling
