pub mod Bools
pub mod Table
pub mod Lexing
pub mod Naming
pub mod Holding
pub mod Course
pub mod Leaving
pub mod Turns
