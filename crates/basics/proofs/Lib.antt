pub mod Bools
pub mod Signs
pub mod Tables
pub mod Digits
pub mod Refusals
