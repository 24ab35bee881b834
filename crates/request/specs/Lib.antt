pub mod WholeSectors
pub mod FlagIgnored
