pub mod Cuts
pub mod Digits
pub mod Gathering
pub mod Joins
pub mod Options
