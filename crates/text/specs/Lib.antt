pub mod Wrote
pub mod Put
pub mod Digits
pub mod Lines
pub mod Text
