pub mod Lists
pub mod Ascii
pub mod Decimal
pub mod Computing
