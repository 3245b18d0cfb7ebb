pub mod OutsideLaws
pub mod Gathered
