pub mod Promise
pub mod Guest
pub mod Decode
pub mod Run
pub mod Halves
pub mod Meters
