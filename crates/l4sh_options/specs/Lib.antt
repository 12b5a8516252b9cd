pub mod Command
pub mod Server
pub mod Shell
pub mod TraceFiles
