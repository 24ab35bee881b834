pub mod Asking
pub mod Segments
