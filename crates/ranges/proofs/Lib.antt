pub mod DiskRange
