-- What callers believe, in the order to read it: the limits, the bits of a word, the one shortest form, how words are stored, spelled, read
-- and made, the index of a one, sampling, complements, and adaptability.
pub mod Limits
pub mod Bits
pub mod Shortest
pub mod Stored
pub mod Items
pub mod Spelling
pub mod Forms
pub mod Stages
pub mod Reading
pub mod Making
pub mod Index
pub mod Multiple
pub mod Sampling
pub mod Complement
pub mod Always
pub mod Adaptable
-- what follows only serves proofs of bodies
pub mod Counting
pub mod Packing
pub mod SamplingSteps
pub mod Turns
pub mod Partials
pub mod Shortened
pub mod Cutting
