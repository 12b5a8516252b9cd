pub mod Faults
pub mod Ongoing
