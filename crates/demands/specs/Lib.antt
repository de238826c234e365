pub mod Edges
pub mod Lent
pub mod CodeContracts
pub mod Demands
