pub mod Sides
pub mod Layers
pub mod TwoSides
