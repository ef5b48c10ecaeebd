pub mod Bits
pub mod Flags
pub mod Pages
pub mod Ranks
pub mod Stores
