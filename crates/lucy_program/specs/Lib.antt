-- What a text is accepted as, and what is printed of that, in this order.
pub mod Names
pub mod Inferring
pub mod Clocked
pub mod Scheduled
pub mod Accepting
pub mod Report
pub mod Laws
