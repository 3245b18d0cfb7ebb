-- What callers believe.
pub mod Interleavings
pub mod Wholeness
pub mod Runners
