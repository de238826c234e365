pub mod ExplainedCalls
pub mod Refuses
pub mod StepAnswers
