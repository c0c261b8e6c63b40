mod Firsts
mod Granted
mod Steps
mod Accepts
mod Fronts
mod Arrives
mod Bounded
mod Stands
mod Astrays
pub mod Ends
