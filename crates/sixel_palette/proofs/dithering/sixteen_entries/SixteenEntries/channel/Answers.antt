use Rattle.std.proofs.{Common.arith, lemmas.Simd.{Each1-all, Each2-splat}}
use Rattle.sixel_palette.proofs.nearest_entries.SixteenEntries.{channel_at}
use Rattle.sixel_palette.proofs.dithering.sixteen_entries.SixteenEntries.channel.Goals as goal

pub nonzero_rem-result : goal.nonzero_rem-result
nonzero_rem-result c = Each2-splat _ _ 16 256 (Each1-all _ (λ x. omega arith) _)

pub returns-clause-sixteen : goal.returns-clause-sixteen
returns-clause-sixteen c = (channel_at c.args.self.now.codes c.args.shift (omega arith)).0

pub returns-clause-each : goal.returns-clause-each
returns-clause-each c = (channel_at c.args.self.now.codes c.args.shift (omega arith)).1
