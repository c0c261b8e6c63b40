pub mod Blocks
pub mod Grants
pub mod BlocksLemmas
