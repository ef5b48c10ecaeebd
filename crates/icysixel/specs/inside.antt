-- Definitions that private contracts cite.
pub mod Bytes
pub mod Lending
pub mod StatePointer
