pub mod Lists
pub mod Banks
pub mod Grants
pub mod BanksLemmas
