-- Laws of the grid rules.
pub mod OrderLaws
pub mod SectionLaws
pub mod RuleLaws
