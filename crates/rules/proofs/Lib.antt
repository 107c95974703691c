pub mod RuleLaws
pub mod Gives
