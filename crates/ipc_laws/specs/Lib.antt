pub mod Meaning
pub mod Changes
pub mod Laws
pub mod Counting
pub mod Locality
pub mod Exchange
