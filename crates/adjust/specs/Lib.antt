pub mod Adjusting
pub mod AdjustingLemmas
