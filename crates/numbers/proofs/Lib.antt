pub mod Forms
pub mod Encoding
pub mod Deciding
pub mod Filling
