pub mod Running
pub mod Whole
