mod OnPiles
mod Leaving
mod Facts
mod Literals
mod Parts
mod Climbing
pub mod TextLaws
