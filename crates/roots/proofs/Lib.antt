pub mod Largest
pub mod Roots
pub mod Voltages
