pub mod Shutting
pub mod ShuttingLemmas
