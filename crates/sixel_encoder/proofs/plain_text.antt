pub mod Bound
pub mod Marks
pub mod Text
