pub mod Over
pub mod StoreLaws
