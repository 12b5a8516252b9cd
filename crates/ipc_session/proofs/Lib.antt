pub mod TellLemmas
pub mod CauseLemmas
pub mod TakeLemmas
pub mod ReadLemmas
pub mod DeterminedLemmas
pub mod WriteLemmas
