pub mod Codes
pub mod Accepted
pub mod Placed
pub mod Readied
