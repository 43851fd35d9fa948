pub mod Answers
pub mod Gathering
