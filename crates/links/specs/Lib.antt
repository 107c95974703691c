pub mod Paths
pub mod Links
pub mod Authority
pub mod Cycles
pub mod Walk
