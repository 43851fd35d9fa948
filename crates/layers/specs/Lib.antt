pub mod Limits
pub mod Entries
pub mod Memory
pub mod Memoizing
pub mod Limiting
