pub mod Replays
pub mod Demanded
