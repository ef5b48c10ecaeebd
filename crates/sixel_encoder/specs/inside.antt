pub mod Indexed
pub mod Grid
pub mod Runs
pub mod Compact
pub mod Bound
