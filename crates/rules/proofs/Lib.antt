pub mod Holding
pub mod Sentences
pub mod Bounds
pub mod Moves
pub mod Orders
pub mod Numbers
pub mod Settled
