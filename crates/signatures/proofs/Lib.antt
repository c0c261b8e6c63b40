pub mod Checking
pub mod Letters
pub mod Typing
pub mod Words
pub mod Written
