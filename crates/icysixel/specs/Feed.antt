-- What a feed of a chunk does, as C sees it: the state before and after, what is reported, and the
-- code. The facts are those of the receiver, by ReceiverCalls of icy_sixel.
use Rattle.std.specs.Prelude.{ℕ, ◌≡◌, ◌≢◌, List, true, false, nat_lt, ◌==◌, ◌&&◌, if◌then◌else◌}
use Rattle.std.specs.Prelude.{Result, MatchResult}
use Rattle.icy_sixel.specs.{Bands.band_of, ReceivedRows.rows_so_far, Receiver.is_open}
use Rattle.icy_sixel.specs.{ReceiverCalls.received, declared.receiver.FailedFeed.FailedFeed}
use Rattle.sixel_decoder.specs.declared.received.Received.{Received}
use Rattle.icysixel.specs.{Changes.AreKept, Code.{IsCodeOf, status_code, status_byte}}
use Rattle.icysixel.specs.{declared.state.State.State, declared.stream.Fed.Fed}
use Rattle.icy_sixel.specs.ReceiverCalls as receivers

-- what C receives of a feed
abbrev pub fed_of : Received → Fed
fed_of fed = record {
  consumed = fed.consumed;
  status = status_code fed.status;
  byte = status_byte fed.status;
}

-- The open image was fed the chunk: what the receiver did and returned.
pub record IsRead (before after : State) (piece : List ℕ) (now : Fed) (code : ℕ) : Type 0 where
  pub result : Result Received FailedFeed
  pub fed : receivers.IsFed before.receiver after.receiver piece result
  -- code 0 is success, any other code that of the error
  pub told : MatchResult result (λ _. code ≡ 0)
      (λ failed. (code ≢ 0) × IsCodeOf code failed.error)
  -- bytes and status are written with an error, too
  pub reported : now ≡ fed_of (received result)

-- An image that is open was fed the chunk.
pub record IsFed (before after : State) (piece : List ℕ) (now : Fed) (code : ℕ) : Type 0 where
  pub closed : is_open before.receiver.image.form ≡ false → code ≡ 2
  pub unchanged : is_open before.receiver.image.form ≡ false → after ≡ before
  pub kept : AreKept before after
  pub read : is_open before.receiver.image.form ≡ true → IsRead before after piece now code

-- what is reported of a feed after which `rows_before` final rows are `rows_after`: as of the feed,
-- but rows, 4, in place of more, 0, if there are more of them
abbrev pub band_report : ℕ → ℕ → Fed → Fed
band_report rows_before rows_after fed =
    if (fed.status == 0) && nat_lt rows_before rows_after then record fed { status = 4 } else fed

-- The open image was fed the chunk up to its first graphics new line.
pub record IsBandFed (before after : State) (piece : List ℕ) (now : Fed) (code : ℕ) : Type 0 where
  -- what a feed of these bytes reports
  pub fed : Fed
  pub is_fed : IsFed before after (band_of piece) fed code
  pub reported : code ≡ 0 → now ≡ band_report (rows_so_far before.receiver.image)
      (rows_so_far after.receiver.image) fed
  pub failed : code ≢ 0 → now ≡ fed
