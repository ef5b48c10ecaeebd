use Rattle.std.proofs.Common.{◌≡◌, subst, rules}
use Rattle.sixel_base.specs.History.{Color}
use Rattle.sixel_decoder.specs.declared.payload_parser.OpenCommand.TheVariants.{InColor}
use Rattle.sixel_decoder.proofs.drawing.LenientTokens.{has_drawn_more}
use Rattle.sixel_decoder.specs.inside.PayloadParser.{IsOpen, StandsIn}
use Rattle.sixel_decoder.specs.declared.payload_parser.OpenCommand.{OpenCommand}
use Rattle.sixel_decoder.proofs.payload_parser.PayloadParser.try_close.Goals as goal

pub returns-clause-shows : goal.returns-clause-shows
returns-clause-shows g c = λ told o h stands.
    let color : c.args.self.now.command ≡ InColor = search rules in
    let is : IsOpen Color o c.args.self.now h =
    subst (λ (p : OpenCommand). StandsIn p o c.args.self.now h) color stands in
    rw is.newest (has_drawn_more o c.select_only.new.self c.args.self.now.ignored (Color is.text)
    is.older (c.select_only.ensures.shows o _ is.text is.keeps is.shows.shows) is.shows.count)
