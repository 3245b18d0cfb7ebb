-- What callers believe, in the order to read it: the outside and its sources, sinks and shelves, how a source was read,
-- those of memory, and the real ones.
pub mod Outside
pub mod Sources
pub mod Memory
pub mod Real
pub mod Shelf
pub mod MemoryShelf
pub mod RealShelf
