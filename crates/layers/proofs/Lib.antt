pub mod Recalling
pub mod Racking
pub mod Answering
pub mod Chunking
pub mod Finding
pub mod Storing
