use Rattle.std.proofs.Common.{◌∙◌}
use Rattle.sixel_palette.{proofs.nearest_entries.Keys.nearest_from_key, specs.inside.Codes.color_of}
use Rattle.sixel_palette.proofs.palette.nearest.Search.nearest.Goals as goal

pub returns-clause-nearest : goal.returns-clause-nearest
returns-clause-nearest c = λ colors numbered.
    nearest_from_key colors c.args.self.now.entries.items (color_of c.args.code)
    c.least_key-key.result numbered
    ((rw c.deref.ensures.value at c.least_key-key.ensures) ∙ c.in_ok-span.ensures.nearest.nearest)
