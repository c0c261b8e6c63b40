mod AllTypes
pub mod Rounding
