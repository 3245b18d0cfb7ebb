-- What callers believe: the two ends of a ring as each sees it, and what gives, takes and meetings do.
pub mod Views
pub mod Ring
