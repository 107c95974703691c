pub mod Rows
pub mod Things
pub mod Free
pub mod Fields
