pub mod Magnitude
pub mod Shares
pub mod CurveLaws
pub mod PointLists
pub mod NameplateLaws
