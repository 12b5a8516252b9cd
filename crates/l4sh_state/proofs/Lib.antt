pub mod Walks
pub mod ThreadLemmas
pub mod Walking
pub mod Deadlocks
