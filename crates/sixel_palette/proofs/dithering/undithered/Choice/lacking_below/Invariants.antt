use Rattle.std.proofs.Common.{◌≡◌, ◌-◌}
use Rattle.sixel_palette.specs.{Undithered.has_entry, inside.Undithered.choice_value}
use Rattle.sixel_palette.proofs.dithering.undithered.Choice.lacking_below.Given as goal

abbrev pub invariant-loop-line : goal.invariant-loop-line
invariant-loop-line l =
    has_entry (choice_value l.self) l.indices l.index l.top 6
    ≡ has_entry (choice_value l.self) l.indices l.index l.pixel (6 - l._line)
