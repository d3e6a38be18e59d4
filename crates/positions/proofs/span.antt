-- Laws of positions and of their four numbers.
pub mod SpanLaws
