pub mod Piles
pub mod BuiltIn
pub mod PilesLemmas
pub mod Beside
