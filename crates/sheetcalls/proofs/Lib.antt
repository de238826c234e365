pub mod Answering
pub mod InPlace
pub mod Refusals
pub mod Storing
