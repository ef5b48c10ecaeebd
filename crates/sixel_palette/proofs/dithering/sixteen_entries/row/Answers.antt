use Rattle.std.proofs.{Common.{◌*◌}, lemmas.Simd.get_or-chunk}
use Rattle.sixel_palette.proofs.dithering.sixteen_entries.row.Goals as goal

pub returns-clause-each : goal.returns-clause-each
returns-clause-each c = λ k l. get_or-chunk (16 * c.args.lane) 16 c.args.rows.now k 0 l
