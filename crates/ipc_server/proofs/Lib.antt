pub mod AnswerLemmas
pub mod DoingLemmas
pub mod NotedLemmas
pub mod HomeLemmas
pub mod ServicesLemmas
