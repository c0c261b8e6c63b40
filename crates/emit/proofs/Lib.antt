mod Emits
mod Turns
mod Same
mod Saved
mod Searches
pub mod Tested
pub mod Bounds
pub mod Asking
