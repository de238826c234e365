pub mod Answers
pub mod Numbers
pub mod Explained
pub mod Explains
