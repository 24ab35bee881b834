pub mod Join
pub mod Found
pub mod Answer
pub mod Theorems
