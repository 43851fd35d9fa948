pub mod Tests
pub mod Rows
pub mod Columns
pub mod Matching
pub mod Unique
pub mod Calls
pub mod Racking
pub mod Chunks
