-- What callers believe, in the order to read it: trees, what contracts see of one, and well-shaped trees.
pub mod Tree
pub mod View
pub mod Shaped
