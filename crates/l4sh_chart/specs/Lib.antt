pub mod Folds
pub mod Told
pub mod Waiting
