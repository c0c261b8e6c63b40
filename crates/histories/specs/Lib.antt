pub mod Heard
pub mod Events
pub mod Histories
pub mod Laws
pub mod Recording
