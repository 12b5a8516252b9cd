pub mod Commands
pub mod Numbers
pub mod Versions
pub mod Subcommands
