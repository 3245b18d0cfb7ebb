-- What callers believe: which size of a buffer is the least, what is told of it, why nothing is, what is printed, and
-- that there is one answer, in this order.
pub mod Least
pub mod Tightening
pub mod Report
pub mod Laws
-- Below this line stands what only serves the proofs of the bodies.
pub mod Measured
