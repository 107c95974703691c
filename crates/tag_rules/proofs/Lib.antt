pub mod TagRows
pub mod RuleLaws
