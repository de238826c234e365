pub mod Binding
pub mod Widened
