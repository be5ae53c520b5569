pub mod Following
pub mod Holders
