pub mod Places
pub mod Lending
pub mod Told
pub mod Pins
