pub mod Apart
pub mod Compared
pub mod Sets
