mod Each
mod Rows
pub mod Seen
pub mod Settled
