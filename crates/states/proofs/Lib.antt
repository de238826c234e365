pub mod Buffers
pub mod Places
