pub mod Signatures
pub mod Faults
