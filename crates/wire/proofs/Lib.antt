pub mod LittleEndian
pub mod Part
