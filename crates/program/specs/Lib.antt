pub mod States
pub mod Saying
pub mod Responses
pub mod Sessions
pub mod Standing
