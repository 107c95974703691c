pub mod ThreadRules
