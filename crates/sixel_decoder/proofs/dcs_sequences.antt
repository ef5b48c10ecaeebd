pub mod Chunks
pub mod Ends
pub mod Finishes
pub mod HeaderReads
pub mod Headers
pub mod Payloads
pub mod Terminators
