pub mod Sound
pub mod LongestRamp
pub mod Examples
