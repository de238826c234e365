pub mod Places
pub mod SquareRule
pub mod OurTable
