pub mod Registers
pub mod Pieces
pub mod Holdings
