pub mod Turns
pub mod Made
pub mod EmptyCall
pub mod Comes
pub mod Delivered
