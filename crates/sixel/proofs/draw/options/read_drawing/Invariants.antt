-- The arguments so far and the rest state what all do.
use Rattle.std.proofs.Common.{◌≡◌, None, length, option_map}
use Rattle.sixel.specs.{Options.{default_options, stated_by}, Words.words_of}
use Rattle.sixel.proofs.draw.options.read_drawing.Given as goal

abbrev pub invariant-options : goal.invariant-options
invariant-options l =
    stated_by l.options (option_map (λ path. path.now) l.path) (words_of l.rest)
    ≡ stated_by default_options None (words_of l.words)

abbrev pub decreases-options : goal.decreases-options
decreases-options l = length l.rest
