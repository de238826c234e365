pub mod Slices
pub mod Samples
pub mod FastSamples
