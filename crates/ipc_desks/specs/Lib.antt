pub mod CallsOf
pub mod Messages
pub mod Desks
pub mod PastDesks
pub mod Finishes
pub mod Steps
