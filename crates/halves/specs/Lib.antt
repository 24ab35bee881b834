pub mod System
pub mod Claim
pub mod Wakeups
