use Rattle.std.proofs.Common.{◌≡◌, ◌%◌, ◌≤◌, refl, arith}
use Rattle.sixel_palette.proofs.refinement.Counts.{count-le, counts_hidden, counts_run}
use Rattle.sixel_palette.proofs.traversal.Farthest.{Contains-word}
use Rattle.sixel_palette.proofs.palette.color_set.ColorSet.count_word.Goals as goal

pub returns-then-word-lt128-clause-counts : goal.returns-then-word-lt128-clause-counts
returns-then-word-lt128-clause-counts c =
    counts_hidden _ _ _ c.args.pixel 1 c.args.word
    (λ k l m. let e : k ≡ c.args.pixel = omega arith in rw e c.requires.word)
    (omega (arith, c.if-word-lt128.true)) c.requires.counts

pub position_of-position-requires-clause-listed : goal.position_of-position-requires-clause-listed
position_of-position-requires-clause-listed c =
    Contains-word _ _ _ _ c.requires.word c.requires.within (omega (arith, c.if-word-lt128.false))
    c.requires.colors.codes.shown

pub overflow_add-counts : goal.overflow_add-counts
overflow_add-counts c =
    omega (
      arith,
      count-le c.args.pixels.now c.args.self.now.codes.items c.args.counts.now c.args.pixel
          c.position_of-position.result c.position_of-position.ensures.within c.requires.counts,
      c.requires.area,
      c.requires.within,
    )

pub returns-clause-counts : goal.returns-clause-counts
returns-clause-counts c =
    let light : 128 ≤ c.args.word % 256 = omega (arith, c.if-word-lt128.false) in
    let found = c.position_of-position.ensures in
    counts_run _ _ c.args.counts.now c.args.pixel 1 c.args.word _ _
    (λ k l m. let e : k ≡ c.args.pixel = omega arith in rw e c.requires.word) light found.within
    found.position refl c.requires.counts
