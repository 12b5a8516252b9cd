pub mod Errors
pub mod Guests
