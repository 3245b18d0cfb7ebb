-- What callers believe, in the order to read it: the output streams of a program, how a program is run, how it
-- goes on, what its outputs took, and laws of its streams.
pub mod Streams
pub mod Running
pub mod Playing
pub mod Taking
pub mod Laws
