pub mod Terms
pub mod Plain
pub mod Noted
pub mod Rules
pub mod Records
pub mod Reading
pub mod Texts
pub mod Ends
