-- The checks of a page.
pub mod PageCheckLaws
