pub mod Counting
pub mod Ordinary
pub mod Unbroken
