pub mod Giving
pub mod Keeping
pub mod Laws
pub mod Reading
pub mod Serving
pub mod Sessions
pub mod Taking
