-- What callers believe, in the order to read it: walks over needs, trees and forests of needs, the least whole vector, and laws of shapes.
pub mod Walks
pub mod Trees
pub mod Forests
pub mod Vectors
pub mod ShapeLaws
-- what follows only serves proofs
pub mod Growing
pub mod Gauss
pub mod Laying
