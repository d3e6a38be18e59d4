-- The columns' shares on the page.
pub mod ColgroupLaws
