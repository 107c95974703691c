pub mod ClearLaws
pub mod Closing
pub mod GatherLaws
pub mod Readings
