pub mod Keys
pub mod Nearest
pub mod NearestEntry
pub mod SixteenEntries
