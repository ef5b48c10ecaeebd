-- What the session of a step was fed, and what the bytes of the step mean by the form of the image.
-- Invariants of this library's own: what a step comes to is in Script.
use Rattle.std.specs.{Option.option_or, Prelude.{ℕ, ◌≡◌, ◌++◌, ◌⊎◌, true, nat_lt, List, [], Option}}
use Rattle.std.specs.Prelude.{Some}
use Rattle.sixel_base.specs.{Dcs.{dcs_fault, end_fault}, Fault.{Fault, StreamFailed}, Limits.Limit}
use Rattle.sixel_base.specs.Payload.{payload_fault}
use Rattle.icy_sixel.specs.{Receiver.{Form, Nothing, OfPayload, OfString, is_over}, Script.Meaning}
use Rattle.icy_sixel.specs.Receiver as images

-- all bytes were fed, or those up to the end of the image
pub record IsWhole (form : Form) (fed bytes : List ℕ) : Type 0 where
  pub left : List ℕ
  pub joined : fed ++ left ≡ bytes
  pub over : (left ≡ []) ⊎ (is_over form fed ≡ true)

-- what is wrong with bytes that are fed and finished
abbrev pub whole_fault : Limit → Form → List ℕ → Option Fault
whole_fault limit Nothing bytes = Some StreamFailed
whole_fault limit (OfPayload settings) bytes = payload_fault limit bytes
whole_fault limit OfString bytes = option_or (dcs_fault limit bytes) (end_fault limit bytes)

-- what bytes mean that are fed to an image of this form
abbrev pub meaning : Limit → Form → List ℕ → Meaning
meaning limit form bytes = record {
  consumed = images.count form bytes;
  status = images.status form bytes;
  fed_fault = images.fault limit form bytes;
  end_fault = whole_fault limit form bytes;
  grows = nat_lt 0 (images.growths form bytes);
  drawn = images.found form bytes;
}
