pub mod Contents
pub mod Held
pub mod Listed
pub mod Refusing
pub mod Making
pub mod Steps
pub mod Tables
pub mod Theorems
