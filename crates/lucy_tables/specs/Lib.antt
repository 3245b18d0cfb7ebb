-- What callers believe, in the order to read it: the text of a table, the words that ask for tables, what is lent of them, why they are
-- refused, how the call ends, and that there is one table and one cut.
pub mod Tables
pub mod Words
pub mod Loading
pub mod Refusals
pub mod Ends
pub mod Laws
-- Below this line stands what only serves the proofs of the bodies.
pub mod Named
pub mod Seen
pub mod Lent
