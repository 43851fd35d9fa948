pub mod Seals
pub mod Sealing
