pub mod Lookups
pub mod Values
