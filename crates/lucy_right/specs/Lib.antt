-- What callers believe, in the order to read it: that names are good, what `run` prints, the clocks that it finds, and laws of all these.
pub mod Names
pub mod Right
pub mod Earliest
pub mod Laws
pub mod Owed
pub mod Refused
pub mod Accepted
pub mod Chosen
