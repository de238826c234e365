pub mod Matching
pub mod Ended
