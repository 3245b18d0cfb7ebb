-- What the clock rules are, which needs say the same, and which words a written node hands down, in this order.
pub mod Clocks
pub mod WellClocked
pub mod Listing
pub mod HandedDown
pub mod NodeClocks
pub mod Laws
-- Below this line stands what only serves the proofs of the bodies.
pub mod Factors
pub mod Drafts
pub mod Reading
