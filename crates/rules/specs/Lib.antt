pub mod Phase
pub mod Table
pub mod Consistent
pub mod Turn
pub mod Standing
pub mod Answers
pub mod Ready
