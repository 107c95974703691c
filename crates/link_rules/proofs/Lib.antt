pub mod RowLaws
pub mod FillLaws
pub mod RuleLaws
