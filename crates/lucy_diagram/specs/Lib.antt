-- What callers believe, in the order to read it: what a drawing of a node shows, what stands at a place, and in which layers a page sets
-- the places down.
pub mod Diagrams
pub mod Labels
pub mod Layers
-- Below this line stands what only serves the proofs of the bodies.
pub mod Drawn
pub mod Layering
