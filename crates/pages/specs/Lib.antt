pub mod Table
pub mod Lines
pub mod Pages
pub mod Faults
pub mod Rules
