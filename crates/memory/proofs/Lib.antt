pub mod Lens
pub mod Backend
pub mod Kept
pub mod Encoded
pub mod Zeros
pub mod Changes
