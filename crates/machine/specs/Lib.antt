pub mod Machine
pub mod Faults
pub mod Fetch
pub mod Laws
pub mod Text
