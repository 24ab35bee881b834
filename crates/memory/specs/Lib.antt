pub mod Layout
pub mod Words
pub mod Backend
pub mod Promise
pub mod InUse
