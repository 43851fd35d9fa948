pub mod Spelling
pub mod Laws
pub mod Growing
pub mod Taking
pub mod Placing
pub mod Answering
pub mod Single
