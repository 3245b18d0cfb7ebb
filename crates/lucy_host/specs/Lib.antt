-- What callers believe, in the order to read it: numbers, the values of operators and of the host's functions, operators, the host,
-- lists and entries.
pub mod Numbers
pub mod OpValue
pub mod HostValue
pub mod Arity
pub mod Operators
pub mod Host
pub mod Lists
pub mod Entries
