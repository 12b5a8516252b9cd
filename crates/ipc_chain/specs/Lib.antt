pub mod Chains
pub mod Judging
pub mod Finding
pub mod Putting
