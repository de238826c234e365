pub mod Marks
pub mod Samples
pub mod Sheets
