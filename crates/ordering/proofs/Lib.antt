pub mod Members
pub mod Counting
pub mod Theorems
pub mod Binding
pub mod Lowest
pub mod Examples
pub mod Asking
