pub mod Run
pub mod Joinable
