use Rattle.std.proofs.{Common.arith, lemmas.Bool.Decides.nat_tests, lemmas.Grind.common_steps}
use Rattle.std.proofs.{lemmas.Grind.flat_map-append, lemmas.List.append-nil}
use Rattle.std.proofs.lemmas.List.FromFn.{length-map-range_with_len}
use Rattle.sixel_encoder.proofs.{MaskBits.mask-small, compact_form.FillSteps.All-fill}
use Rattle.sixel_encoder.proofs.compact.BandWriter.push_segment.Goals as goal

pub push_row-requires : goal.push_row-requires
push_row-requires c =
    grind (arith, nat_tests, All-fill, mask-small, c.deref.ensures.value, c.in_ok-draw.ensures.row)

pub returns-clause-writer : goal.returns-clause-writer
returns-clause-writer c = grind (arith, length-map-range_with_len, c.in_ok-draw.ensures.blocked)

pub returns-clause-text : goal.returns-clause-text
returns-clause-text c = grind (arith, nat_tests, append-nil, common_steps, flat_map-append)
