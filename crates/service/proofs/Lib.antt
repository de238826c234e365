pub mod Stepping
pub mod Ordinary
