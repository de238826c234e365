pub mod CarryOver
pub mod Carries
