mod Places
pub mod Chains
mod Lifts
mod Raises
mod Passes
mod Sweeps
mod Earliest
mod Circles
mod Counting
mod Climbs
mod Forests
mod Rounds
mod Rows
