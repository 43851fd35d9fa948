pub mod Rows
pub mod Marks
pub mod Meaning
pub mod Calls
pub mod Racks
pub mod Laws
