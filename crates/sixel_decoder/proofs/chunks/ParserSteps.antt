-- How a parser goes on from one history to the next.
use Rattle.std.proofs.Common.{◌≡◌, ℕ, Bool, true, false, List, [], ◌∷◌, ◌++◌, arith, Option, Some}
use Rattle.std.{proofs.lemmas.Bool.Decides.nat_tests, specs.Prelude.{IsTrue, nat_lt}}
use Rattle.std.proofs.lemmas.Result.{err_from_is_err_and}
use Rattle.sixel_base.{proofs.Histories.read_ends, specs.Fault.{Fault, Faults}, specs.History.Token}
use Rattle.sixel_base.{specs.History.{History, goes_on, read}, specs.Lenient.fault}
use Rattle.sixel_base.{specs.Limits.Limit, specs.Payload.{closed, growths}, specs.Stroke.Origin}
use Rattle.sixel_base.specs.declared.error.SixelError.{SixelError}
use Rattle.sixel_base.specs.inside.Parameters.{Parameters, Keeps}
use Rattle.sixel_canvas.specs.declared.drawing.Canvas.{Ghosts}
use Rattle.sixel_decoder.specs.declared.payload_parser.OpenCommand.{OpenCommand}
use Rattle.sixel_decoder.specs.declared.payload_parser.PayloadParser.{PayloadParser}
use Rattle.sixel_decoder.specs.inside.PayloadParser.{StandsIn}

-- what may be answered goes on along a weaker leave and a fault that stays
pub Faults-along : (e : SixelError) (may may' : Bool) (found found' : Option Fault)
    → (IsTrue may → IsTrue may') → ((f : Fault) → found ≡ Some f → found' ≡ Some f)
    → Faults e may found → Faults e may' found'
Faults-along e may may' found found' wants stays is = grind (arith, nat_tests)

pub fault_stays : (limit : Limit) (token : Token) (h : History) (f : Fault)
    → fault limit h ≡ Some f → fault limit (closed (token ∷ h)) ≡ Some f
fault_stays limit token h f = grind (arith, nat_tests)

pub stands_goes_on : {C : Type 0} {canvas : Ghosts C} (command : OpenCommand) (o : Origin)
    (h : History) (parser : PayloadParser C canvas) (ps : Parameters) (byte : ℕ)
    → goes_on h byte ≡ true → StandsIn command o parser h
    → ((text : List ℕ) → Keeps parser.parameters text → Keeps ps (text ++ byte ∷ []))
    → StandsIn command o (record parser { parameters = ps }) (read h byte)
stands_goes_on command o h parser ps byte goes is pushed = grind (arith, nat_tests)

-- if the open command is rejected at the next byte, so are the tokens up to that byte
pub refused_close : (e : SixelError) (limit : Limit) (h : History) (byte : ℕ)
    → goes_on h byte ≡ false → Faults e false (fault limit h)
    → Faults e (nat_lt (growths (closed h)) (growths (closed (read h byte))))
    (fault limit (closed (read h byte)))
refused_close e limit h byte ends is = grind (arith, Faults-along, fault_stays, read_ends)

-- what reading a byte needs
pub ruleset byte_reads = (nat_tests, stands_goes_on, refused_close, err_from_is_err_and)
