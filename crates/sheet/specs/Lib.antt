pub mod LineReads
pub mod Outcomes
pub mod Parts
