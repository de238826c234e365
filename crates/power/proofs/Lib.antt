pub mod Steps
pub mod Newton
