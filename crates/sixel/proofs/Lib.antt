pub mod FirstWords
pub mod ByteCounts
pub mod DcsSequences
pub mod Drawings
pub mod FileOutputs
pub mod ImageSequences
pub mod Outputs
mod WrittenBytes
