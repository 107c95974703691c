pub mod Runs
pub mod Leaves
pub mod Demands
pub mod Cases
pub mod RecordRuns
