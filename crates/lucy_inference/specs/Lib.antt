-- Which words are inferred for the clocks of a node, why there are none, and what the laws say, in this order.
pub mod Earliest
pub mod Inference
pub mod Refusals
pub mod Laws
-- Below this line stands what only serves the proofs of the bodies.
pub mod Stages
