pub mod Numbers
pub mod Below
pub mod Sets
pub mod Labels
pub mod LabelBytes
pub mod Flow
