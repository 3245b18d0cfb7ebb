-- What callers believe, in the order to read it: sets and kinds of tokens, the symbols of the grammar, what a derivation means, the
-- grammar, programs, how tokens are read by one token ahead, the printed text of a program and the tokens of that, what can be printed, and laws
-- of all these.
pub mod Sets
pub mod Kinds
pub mod Symbols
pub mod Meanings
pub mod Grammar
pub mod Derivations
pub mod Programs
pub mod Reading
pub mod Print
pub mod PrintTokens
pub mod Spans
pub mod Printable
pub mod Parens
pub mod Texts
pub mod Laws
-- what only serves the proofs: derivations put together, and what bodies print
pub mod Deriving
pub mod Sheets
pub mod Why
