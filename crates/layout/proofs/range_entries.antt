-- Laws of the entries of ranges.
pub mod RangeLaws
pub mod RangesLaws
