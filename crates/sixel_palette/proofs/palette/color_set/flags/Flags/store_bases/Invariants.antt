use Rattle.std.proofs.Common.{◌≡◌, ◌+◌, ◌*◌}
use Rattle.sixel_palette.specs.inside.Flags.{HasBases, rank_of}
use Rattle.sixel_palette.proofs.palette.color_set.flags.Flags.store_bases.Given as goal

abbrev pub invariant-loop-page : goal.invariant-loop-page
invariant-loop-page l = record {
  count : l.count ≡ rank_of l.self (4096 * l.page);
  bases : HasBases l.self l.bases (64 * l.page);
}

abbrev pub invariant-loop-word : goal.invariant-loop-word
invariant-loop-word l = record {
  count : l.count ≡ rank_of l.self (64 * (64 * l.page + l.word));
  bases : HasBases l.self l.bases (64 * l.page + l.word);
}
