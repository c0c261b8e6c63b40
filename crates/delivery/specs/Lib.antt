pub mod Widening
pub mod CodeBy
pub mod Code
pub mod Bodies
pub mod Delivering
