pub mod Leaving
pub mod Granting
pub mod After
pub mod Twins
pub mod Hearing
pub mod Recorded
