pub mod Writing
pub mod Widening
pub mod Digits
