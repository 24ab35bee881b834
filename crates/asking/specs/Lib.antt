pub mod Request
pub mod Slot
