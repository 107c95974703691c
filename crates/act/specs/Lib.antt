pub mod World
pub mod Step
pub mod Act
