-- Laws of scanning: the slots written while characters are checked.
pub mod ScanLaws
pub mod ScannedLaws
