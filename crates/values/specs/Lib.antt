pub mod Sizes
pub mod Kinds
pub mod Types
pub mod Requests
