pub mod Session
pub mod Run
