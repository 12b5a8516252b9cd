pub mod States
pub mod Doings
pub mod Waits
pub mod WaitsFor
pub mod Propagation
pub mod Lines
pub mod Times
