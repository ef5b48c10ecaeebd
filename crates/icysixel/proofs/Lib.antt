pub mod AsBox
pub mod AsBytes
pub mod Ended
pub mod Steps
pub mod Witnesses
pub mod SourceRows
pub mod Calls
