pub mod Placing
pub mod Calls
pub mod Standing
pub mod Astray
