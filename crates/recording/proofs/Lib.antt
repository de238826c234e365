pub mod Groups
pub mod Stepping
