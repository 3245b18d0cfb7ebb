-- what callers believe, in the order to read it
pub mod Texts
pub mod Streams
pub mod Phrases
pub mod Places
pub mod Faults
pub mod Written
pub mod Placing
pub mod Laws
-- what serves proofs alone
pub mod Numbering
pub mod Nodes
pub mod Views
pub mod Drafts
