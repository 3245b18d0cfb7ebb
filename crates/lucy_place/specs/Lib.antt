-- what callers believe, in the order to read it
pub mod PlacedProgram
pub mod Standing
pub mod Reads
pub mod Proper
pub mod WrittenNodes
pub mod Literals
