pub mod Profiles
pub mod Plans
pub mod Stages
pub mod Readings
pub mod Drafts
pub mod Describing
