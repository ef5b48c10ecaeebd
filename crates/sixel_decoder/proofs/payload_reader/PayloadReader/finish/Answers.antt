use Rattle.std.proofs.Common.{◌≡◌, Ok, Err, false, Result, refl, min, arith}
use Rattle.std.proofs.lemmas.Bool.Decides.{nat_tests}
use Rattle.std.specs.Prelude.{is_some, IfOk}
use Rattle.sixel_base.specs.{IgnoredCommands.payload_ignored}
use Rattle.sixel_base.specs.{Payload.tokens, Stroke.Origin, declared.error.SixelError.SixelError}
use Rattle.sixel_base.proofs.ToleratedTokens.{effective-fault}
use Rattle.sixel_decoder.specs.{FinishedImages.IsTaken, Reception.of_payload, Session.Session}
use Rattle.sixel_decoder.specs.declared.decoded_payload.DecodedPayload.{DecodedPayload}
use Rattle.sixel_decoder.specs.{inside.Painter.Ends}
use Rattle.sixel_decoder.specs.inside.PayloadReader.{session_of}
use Rattle.sixel_decoder.proofs.chunks.{Joined.parser_read, PayloadFaults.payload_ends}
use Rattle.sixel_decoder.proofs.payload_reader.PayloadReader.finish.Goals as goal

-- how an image is taken whose parser ended its history
taken_by : (result : Result DecodedPayload SixelError) (s : Session) → s.is_refused ≡ false
    → IfOk result (λ picture. picture.first_row ≡ min s.released picture.height)
    → Ends result s.origin (tokens s.origin.pixel_limit s.bytes)
    (payload_ignored s.origin.pixel_limit s.bytes)
    → IsTaken (of_payload s) result
taken_by (Ok picture) s accepted first ends = grind (arith, nat_tests)
taken_by (Err e) s accepted first ends = grind (arith, nat_tests, payload_ends, effective-fault)

pub returns-in-Some : goal.returns-in-Some
returns-in-Some g c =
    let inside = c.self.inside in
    let o : Origin = (session_of inside).origin in
    let read = parser_read _ _ o inside.terminator inside.log c.in-Some.is c.self.invariant in
    rw (← c.self.view_is)
    (taken_by c.finish.result (session_of inside) (rw c.in-Some.is refl)
    (rw c.in-Some.is c.finish.ensures.first)
    (c.finish.ensures.ends o _ (is_some inside.terminator) read.1))
