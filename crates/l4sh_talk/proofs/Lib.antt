pub mod HearingLemmas
pub mod TalkLemmas
pub mod TypedLemmas
