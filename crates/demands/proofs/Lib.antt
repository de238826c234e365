pub mod Edges
pub mod Lent
pub mod Writable
pub mod Printed
pub mod CarryOver
pub mod OneCarryOver
pub mod Contracts
pub mod Demands
