use Rattle.std.proofs.{Common.{subst, arith}, lemmas.Bool.Decides.nat_tests}
use Rattle.sixel_decoder.specs.declared.payload_parser.OpenCommand.{OpenCommand}
use Rattle.sixel_decoder.specs.inside.PayloadParser.{IsOpen, StandsIn}
use Rattle.sixel_base.specs.History.{Color}
use Rattle.sixel_decoder.proofs.drawing.LenientTokens.{has_drawn_more, tolerates}
use Rattle.sixel_decoder.proofs.payload_parser.PayloadParser.close.Goals as goal

pub returns-in-InRepeat-clause-drawn : goal.returns-in-InRepeat-clause-drawn
returns-in-InRepeat-clause-drawn g c = grind (arith, nat_tests, tolerates)

pub returns-in-InRaster-clause-drawn : goal.returns-in-InRaster-clause-drawn
returns-in-InRaster-clause-drawn g c = grind (arith, nat_tests, tolerates)

pub returns-in-InColor-clause-drawn : goal.returns-in-InColor-clause-drawn
returns-in-InColor-clause-drawn g c = λ o h stands.
    let is : IsOpen Color o c.args.self.now h =
    subst (λ (p : OpenCommand). StandsIn p o c.args.self.now h) c.in-InColor.is stands in
    rw is.newest (has_drawn_more o c.select.new.self c.args.self.now.ignored (Color is.text)
    is.older (c.select.ensures.shows o _ is.text is.keeps is.shows.shows) is.shows.count)
