-- Numbers in decimal.
pub mod DigitLaws
