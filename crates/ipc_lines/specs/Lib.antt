pub mod Texts
pub mod Lines
pub mod Laws
pub mod Reading
pub mod Names
pub mod Spelling
pub mod Limit
