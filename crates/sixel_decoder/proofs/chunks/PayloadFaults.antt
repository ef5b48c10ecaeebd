-- What is rejected while a payload is fed is rejected at its end.
use Rattle.std.proofs.{Common.{Bool, List, ℕ, Result, arith}, lemmas.Bool.Decides.nat_tests}
use Rattle.std.specs.Prelude.{IsTrue, nat_lt, ◌||◌}
use Rattle.sixel_base.specs.{Bytes.front, Fault.Faults, History.history_of}
use Rattle.sixel_base.specs.{IgnoredCommands.payload_ignored, Lenient.{fault, effective}}
use Rattle.sixel_base.specs.{Limits.Limit, Payload.{growths, settled, payload_fault, payload_wants}}
use Rattle.sixel_base.specs.{Stroke.Origin, declared.error.SixelError.SixelError}
use Rattle.sixel_base.proofs.ToleratedTokens.{effective-fault}
use Rattle.sixel_decoder.specs.declared.decoded_payload.DecodedPayload.{DecodedPayload}
use Rattle.sixel_decoder.specs.{inside.Painter.Ends, inside.PayloadParser.Decodes}
use Rattle.sixel_decoder.proofs.chunks.ParserSteps.{Faults-along}

pub or_right : (a b : Bool) → IsTrue b → IsTrue (a || b)
or_right a b is = grind (arith, nat_tests)

pub payload_refused : (e : SixelError) (limit : Limit) (bytes : List ℕ)
    → Faults e (nat_lt 0 (growths (settled bytes))) (fault limit (settled bytes))
    → Faults e (payload_wants limit bytes) (payload_fault limit bytes)
payload_refused e limit bytes refused = grind (arith, nat_tests)

-- what is rejected at the end of a payload
pub payload_ends : (result : Result DecodedPayload SixelError) (o : Origin) (bytes : List ℕ)
    → Ends result o (effective o.pixel_limit (history_of (front bytes)))
    (payload_ignored o.pixel_limit bytes) → Decodes result o bytes
payload_ends result o bytes is = grind (arith, nat_tests, effective-fault, Faults-along)

-- what reading a whole payload needs
pub ruleset whole_payloads = (nat_tests, payload_refused, payload_ends)
