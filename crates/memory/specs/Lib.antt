pub mod Remembered
pub mod Truth
pub mod Notes
