pub mod Trial
pub mod Answers
