pub mod Outcomes
pub mod Carrying
pub mod Numbered
