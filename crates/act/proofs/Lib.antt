pub mod Ind
pub mod Room
pub mod Writing
pub mod Weighing
pub mod Stepping
