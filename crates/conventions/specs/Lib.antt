pub mod Conventions
