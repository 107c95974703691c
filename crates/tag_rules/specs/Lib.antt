pub mod TagRules
