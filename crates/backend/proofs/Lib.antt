pub mod OpenClose
