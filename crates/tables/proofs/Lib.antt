pub mod Said
pub mod First
pub mod Among
pub mod Lineages
