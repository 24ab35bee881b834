pub mod Every
pub mod Runs
pub mod Joinable
