-- Definitions that private contracts cite. A reader of the format's meaning can skip them.
pub mod Parameters
pub mod GhostList
