-- Definitions that private contracts cite. A reader of what lists of steps mean can skip them.
pub mod Receiving
pub mod Session
