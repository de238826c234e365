pub mod Exported
pub mod InNumbers
pub mod Refusals
