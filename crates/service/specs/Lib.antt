pub mod Faults
pub mod Culprits
pub mod Services
pub mod Agreeing
