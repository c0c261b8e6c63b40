pub mod Emitting
pub mod Faults
pub mod Coding
pub mod Registers
