pub mod Answering
pub mod Runs
pub mod Demanded
