pub mod SessionLaws
pub mod Answering
pub mod Feeding
pub mod Ending
pub mod Running
