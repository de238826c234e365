pub mod Calls
pub mod FirstCause
pub mod SheetCauses
pub mod Alike
