pub mod LookLemmas
pub mod NoteLemmas
pub mod Opening
pub mod Texts
pub mod RunLemmas
pub mod TallyLemmas
pub mod Told
