mod Chunks
pub mod Taking
