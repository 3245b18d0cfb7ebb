-- What callers believe, in the order to read it: how a text is quoted, what stands in labels, and how drawings of a node and of a whole
-- program's net are printed.
pub mod Quotes
pub mod Labels
pub mod Graphs
pub mod Nets
