pub mod ShamRefusals
pub mod ShamCarryOvers
pub mod Shams
pub mod ShamRules
pub mod ShamRamps
pub mod ShamDroops
pub mod Caught
