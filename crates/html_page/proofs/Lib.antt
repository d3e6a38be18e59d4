pub mod PageCellLaws
pub mod PageLaws
