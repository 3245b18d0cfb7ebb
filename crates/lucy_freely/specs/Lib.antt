-- What callers believe stands in `lucy_app`, `specs/Engines`; below this line stands what only serves the proofs.
pub mod Loops
