pub mod Refuses
pub mod SheetAnswers
