pub mod CallLemmas
pub mod Settling
pub mod Rows
pub mod EnteredOnce
pub mod HoldingLemmas
pub mod SweepLemmas
pub mod PlaceLemmas
