pub mod Runs
pub mod Taking
