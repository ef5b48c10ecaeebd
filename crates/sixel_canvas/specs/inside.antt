-- Definitions that private contracts cite. A reader of the public contracts can skip them.
pub mod Band
pub mod BandCanvas
pub mod RowsState
pub mod Pixels
pub mod ReleasedRows
pub mod RowBand
pub mod RowCanvas
pub mod TaggedBand
pub mod TaggedRow
pub mod Tags
