-- What callers believe: a system of inequalities, its solutions, the earliest one and negative cycles, and what the solver's answer says.
pub mod System
pub mod Outcomes
-- what only serves the proofs
pub mod Parents
pub mod Search
pub mod Climb
