pub mod Division
pub mod Lookup
pub mod Storage
pub mod Dividing
pub mod Storing
