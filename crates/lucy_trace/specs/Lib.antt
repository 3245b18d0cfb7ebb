-- What callers believe: what a log is, where a core may be led to, what a trace is, and how a runner stands beside a core.
pub mod Logs
pub mod Catching
pub mod Traces
pub mod Together
-- Below this line stands what only serves the proofs.
pub mod Steps
pub mod Progress
