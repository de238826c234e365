pub mod Lines
pub mod Shapes
pub mod Stored
pub mod Reading
pub mod HandedBack
