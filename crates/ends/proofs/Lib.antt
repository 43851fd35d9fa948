pub mod Searching
pub mod Scanning
