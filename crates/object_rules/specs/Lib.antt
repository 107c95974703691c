pub mod ObjectRules
