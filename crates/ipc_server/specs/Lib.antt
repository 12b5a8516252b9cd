pub mod Doing
pub mod Writing
pub mod Services
pub mod Ending
