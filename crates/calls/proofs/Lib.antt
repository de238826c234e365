pub mod Answering
pub mod Refusals
pub mod Storing
