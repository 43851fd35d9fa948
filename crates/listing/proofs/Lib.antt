pub mod Placing
pub mod Ascents
pub mod Gathering
pub mod Searching
pub mod Comparing
