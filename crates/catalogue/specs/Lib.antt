pub mod Plain
pub mod Sheets
pub mod Records
pub mod Reading
pub mod Texts
pub mod Racks
