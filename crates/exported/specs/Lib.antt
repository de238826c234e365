pub mod Exported
pub mod InNumbers
pub mod Refuses
