pub mod chunks
pub mod dcs_sequences
pub mod drawing
pub mod images
