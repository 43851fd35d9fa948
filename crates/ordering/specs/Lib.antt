pub mod Literals
pub mod Orders
pub mod Picking
pub mod Listed
pub mod Answers
pub mod Worked
pub mod Asked
pub mod Asking
