pub mod Play
pub mod Promise
pub mod Waiting
pub mod Books
pub mod Files
pub mod Witness
pub mod Slips
