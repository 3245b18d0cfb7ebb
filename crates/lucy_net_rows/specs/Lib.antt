-- What is known of the input that a program is run on, and of nets that are made or moved by hand.
pub mod Ready
pub mod Echo
pub mod ByHand
