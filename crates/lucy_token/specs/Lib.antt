-- What callers believe, in the order to read it: tokens, marks, what the tokens before tell, where tokens begin and end, their contents,
-- cuts, how tokens are written, and printed, and the laws of cuts.
pub mod Tokens
pub mod Marks
pub mod Before
pub mod Fronts
pub mod Contents
pub mod Cuts
pub mod Written
pub mod Printed
pub mod Laws
-- what only serves the proofs: which tokens may stand in print behind others, the scanner's states and steps, and what stands in print by them
pub mod Spelled
pub mod Scans
pub mod States
pub mod Steps
