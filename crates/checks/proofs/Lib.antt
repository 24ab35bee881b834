pub mod Steps
pub mod Reasons
