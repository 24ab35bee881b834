pub mod Slot
pub mod Pass
