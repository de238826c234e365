pub mod Parts
pub mod Equipments
