mod Ranges
mod Canonical
mod Full
mod Folds
