pub mod Runs
pub mod Straight
pub mod Calls
pub mod Frames
pub mod Stuck
pub mod Bytes
