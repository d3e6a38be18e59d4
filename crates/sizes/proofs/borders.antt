-- Laws of where borders stand.
pub mod StartLaws
pub mod OffsetLaws
pub mod FirstLaws
