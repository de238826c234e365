pub mod Forms
pub mod Lines
