-- Words that only the contracts of private functions cite, over the painter, the parser and the
-- readers. What sessions and decoding mean does not depend on them.
pub mod DrawnRows
pub mod Painter
pub mod Lenient
pub mod PayloadParser
pub mod PayloadReader
pub mod Header
pub mod DcsState
pub mod DcsReader
pub mod Ready
pub mod Runs
pub mod Sizes
