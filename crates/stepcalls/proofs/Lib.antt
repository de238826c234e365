pub mod Explaining
pub mod Refusals
pub mod Storing
