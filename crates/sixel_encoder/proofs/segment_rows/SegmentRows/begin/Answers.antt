use Rattle.std.proofs.{Common.arith, lemmas.Grind.same_number_lists}
use Rattle.std.proofs.lemmas.List.FromFn.{get_or-map-range_with_len, length-map-range_with_len}
use Rattle.sixel_encoder.proofs.segment_rows.SegmentRows.begin.Goals as goal

pub returns : goal.returns
returns c = grind (arith, same_number_lists, length-map-range_with_len, get_or-map-range_with_len)
