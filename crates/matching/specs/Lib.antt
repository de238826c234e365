pub mod Places
pub mod Forms
