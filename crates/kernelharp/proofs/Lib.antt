pub mod Kept
pub mod Returns
pub mod Decode
pub mod Runs
pub mod Halves
pub mod Meters
