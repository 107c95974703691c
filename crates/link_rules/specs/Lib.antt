pub mod LinkRules
pub mod Rows
pub mod Filling
