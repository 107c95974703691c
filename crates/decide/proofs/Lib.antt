pub mod AuthorityComes
pub mod ThreadComes
pub mod ObjectComes
