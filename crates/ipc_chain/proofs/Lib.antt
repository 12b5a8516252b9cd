pub mod Others
pub mod Keeping
pub mod Taking
pub mod Joining
pub mod Walking
pub mod Each
