mod Profiles
mod Came
mod Twins
mod Parts
pub mod Agreed
