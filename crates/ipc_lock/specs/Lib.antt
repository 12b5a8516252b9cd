pub mod Rounds
pub mod Above
pub mod Telling
pub mod InsideParts
pub mod Turns
pub mod Logs
pub mod Handing
