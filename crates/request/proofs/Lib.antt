pub mod Asked
pub mod Expected
pub mod WholeSectors
pub mod FlagIgnored
