pub mod Listing
pub mod Size
