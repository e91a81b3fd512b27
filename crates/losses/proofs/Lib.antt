pub mod Halving
pub mod Laws
pub mod Notings
pub mod Opened
pub mod Places
