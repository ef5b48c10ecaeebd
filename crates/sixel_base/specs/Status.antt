-- The status of a payload by its first terminator, which ends it and does not belong to it. This is
-- DEC's rule for sixel data. The names of the two cases are those of icy_sixel.
use Rattle.std.specs.Prelude.{ℕ, Option, Some, None}
use Rattle.sixel_base.specs.declared.status.SixelFeedStatus.{SixelFeedStatus}
use Rattle.sixel_base.specs.declared.status.SixelFeedStatus.TheVariants.{NeedMoreData, Terminated}

-- the status of bytes with this first terminator
abbrev pub status_of : Option ℕ → SixelFeedStatus
status_of None = NeedMoreData
status_of (Some byte) = Terminated byte
