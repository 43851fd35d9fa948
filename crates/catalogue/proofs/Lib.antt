pub mod Shaping
pub mod Laws
pub mod Comparing
pub mod Taking
pub mod Answering
pub mod Facts
