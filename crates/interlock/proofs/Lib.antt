pub mod Settled
mod Doings
mod Looks
