-- what callers believe, in the order to read it
pub mod Rules
pub mod Typing
pub mod Clash
pub mod Programs
pub mod Tables
-- what serves proofs alone
pub mod Gathered
pub mod Ports
pub mod Graphs
pub mod Flooding
pub mod Nodes
