pub mod Apply
pub mod Writes
