pub mod Buffers
pub mod Run
pub mod Lists
