-- A column's share.
pub mod ShareLaws
