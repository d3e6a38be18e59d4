pub mod Shares
pub mod Page
pub mod PageCall
pub mod Tags
pub mod PageTree
pub mod Escaping
pub mod PageListing
pub mod Computing
