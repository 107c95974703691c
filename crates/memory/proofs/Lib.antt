pub mod Front
pub mod Asking
pub mod MemoryLaws
pub mod Cases
