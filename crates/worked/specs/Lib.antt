pub mod Trials
pub mod Piles
pub mod Cases
pub mod Deliveries
