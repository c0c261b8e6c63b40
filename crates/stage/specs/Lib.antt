pub mod Books
pub mod Lawful
pub mod Faults
pub mod Cursors
pub mod Clearing
