-- How many commands of an image are ignored if it ends now: an open command is closed then. Which
-- are ignored is in Lenient.
use Rattle.std.specs.Prelude.{ℕ, List}
use Rattle.sixel_base.specs.{Bytes.front, History.history_of, Lenient.ignored_count, Limits.Limit}

abbrev pub payload_ignored : Limit → List ℕ → ℕ
payload_ignored limit bytes = ignored_count limit (history_of (front bytes))
