pub mod ImageCalls
pub mod Refuses
pub mod ReplayAnswers
