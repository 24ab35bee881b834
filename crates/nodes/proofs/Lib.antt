pub mod Order
pub mod Values
