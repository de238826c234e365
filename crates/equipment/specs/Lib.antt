pub mod ExampleSheets
pub mod Ours
