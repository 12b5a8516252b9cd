pub mod ReadLemmas
pub mod ClientLemmas
pub mod WireLemmas
pub mod BuildLemmas
pub mod CutLemmas
pub mod PeriodLemmas
pub mod LawLemmas
