-- Feeding an open image up to its next graphics new line, `-` by DEC's manual: the bytes that are
-- read, and what is reported. Which rows are final is in FinalRows.
use Rattle.std.specs.Prelude.{ℕ, ◌≡◌, ◌==◌, ◌&&◌, not, nat_lt, if◌then◌else◌, List, [], ◌∷◌, Result}
use Rattle.std.specs.Result.{result_map_both}
use Rattle.icy_sixel.specs.{ReceivedRows.rows_so_far, Receiver.{Receiver, has_ended}}
use Rattle.icy_sixel.specs.ReceiverCalls.{IsFed}
use Rattle.icy_sixel.specs.declared.receiver.FailedFeed.{FailedFeed}
use Rattle.icy_sixel.specs.declared.receiver.rows.BandStatus.{BandStatus}
use Rattle.icy_sixel.specs.declared.receiver.rows.BandStatus.TheVariants.{Rows, Image}
use Rattle.icy_sixel.specs.declared.receiver.rows.ReceivedBand.{ReceivedBand}
use Rattle.sixel_decoder.specs.declared.{received.Received.Received, received.Status.Status}

-- the bytes up to and with the first graphics new line, or all
abbrev pub band_of : List ℕ → List ℕ
band_of [] = []
band_of (byte ∷ bytes) = if byte == 45 then byte ∷ [] else byte ∷ band_of bytes

-- the status after `before` final rows became `after`: rows if these are more and the image goes
-- on, else that of the image
abbrev pub band_status : ℕ → ℕ → Status → BandStatus
band_status before after status =
    if not (has_ended status) && nat_lt before after then Rows else Image status

-- what is reported of a feed after which `before` final rows are `after`
abbrev pub received_band : ℕ → ℕ → Received → ReceivedBand
received_band before after received = record {
  consumed = received.consumed;
  status = band_status before after received.status;
}

-- The open image reads the chunk up to its first graphics new line, or is rejected.
pub record IsBandFed (old new : Receiver) (chunk : List ℕ)
    (result : Result ReceivedBand FailedFeed) : Type 0 where
  -- what a feed of these bytes returns
  pub received : Result Received FailedFeed
  pub fed : IsFed old new (band_of chunk) received
  -- the call returns the same, with the status of a band
  pub reported : result ≡ result_map_both
      (received_band (rows_so_far old.image) (rows_so_far new.image)) (λ failed. failed) received
