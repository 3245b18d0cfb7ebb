mod Names
mod Lengths
mod Order
