-- Laws of the checks 13 and 3.
pub mod CheckLaws
pub mod ScanLaws
