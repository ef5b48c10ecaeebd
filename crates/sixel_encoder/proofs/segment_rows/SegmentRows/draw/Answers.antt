use Rattle.std.proofs.Common.{◌≡◌, ◌+◌, ◌<◌, List, length, set, ap, ◌∙◌, arith, ℕ, refl}
use Rattle.std.{proofs.Common.slice_index, proofs.lemmas.Bool.Decides.nat_tests}
use Rattle.std.{proofs.lemmas.List.get_or_default, specs.Int.Bits.bit_or}
use Rattle.sixel_encoder.proofs.compact_form.FillSteps.{IsBlocking, blocked-after, blocked-more}
use Rattle.sixel_encoder.proofs.compact_form.FillSteps.{fill-end, fill-off, fill-on}
use Rattle.sixel_encoder.{specs.Text.sixel_of, specs.inside.Indexed.drawing_of}
use Rattle.sixel_encoder.proofs.segment_rows.SegmentRows.draw.Goals as goal
use goal.{then-more-wider-eq0, else-more-wider-eq0+in_ok-resize}

pub loop-column-preserved : goal.loop-column-preserved
loop-column-preserved c =
    let is = c.loop-column.invariant in
    let segment = c.args.segment.now in
    let entries = c.args.entries.now in
    let own : ℕ → ℕ = sixel_of (drawing_of entries.image.now) entries.band segment.entry in
    let old : List ℕ = c.args.self.now.blocked.items in
    let column = c.loop-column.column in
    let row = c.loop-column.self.row in
    let was : List ℕ = c.loop-column.self.blocked.items in
    let high : column < segment.end = c.loop-column-test.true in
    let inside : column < length was = grind (arith, nat_tests) in
    let sixel : c.sixel-own.result ≡ own column = c.sixel-own.ensures in
    let ban : c.index-blocked.result.now ≡ slice_index old column =
    grind (arith, nat_tests, get_or_default, c.index-blocked.ensures, is.blocked.past) in
    let value : bit_or c.index-blocked.result.now c.sixel-own.result
    ≡ bit_or (slice_index old column) (own column) = grind (arith, nat_tests) in
    let blocking : IsBlocking old own segment.first (column + 1)
    (set was column (bit_or c.index-blocked.result.now c.sixel-own.result)) =
    blocked-more _ _ _ _ _ _ inside c.loop-column.auto.column value is.blocked in
    elim c.if-more-wider-eq0.branch [
      | then-more-wider-eq0 w ↦ rw w.self-is record {
        short = omega (arith, is.short);
        row = fill-on _ _ _ _ _ _ _ _ _ _ _ _ high is.short refl
            (w.bits-is ∙ ap (bit_or c.loop-column.bits) sixel)
            (w.ban-is ∙ ap (bit_or c.loop-column.ban) ban)
            (rw (sixel, ban) at w.if-more-wider-eq0.true) is.row;
        blocked = blocking;
      }
      | else-more-wider-eq0+in_ok-resize w ↦
          let cut =
          fill-off _ _ _ _ _ _ _ _ _ _ _ _ _ _ high is.short refl row.ok.0
          w.in_ok-resize.ensures.items (w.bits-is ∙ sixel) (w.ban-is ∙ ban)
          (rw (sixel, ban) at w.if-more-wider-eq0.false) is.row in
          grind (arith, nat_tests, w.self-is)
    ]

pub returns-clause-row : goal.returns-clause-row
returns-clause-row c =
    let is = c.loop-column.invariant in
    let all : c.loop-column.column ≡ c.args.segment.now.end = grind (arith, nat_tests) in
    fill-end _ _ _ _ _ _ _ _ _ _ _ (rw all at is.short) refl c.loop-column.self.row.ok.0
    c.in_ok-resize-2.ensures.items (rw all at is.row)

pub returns-clause-blocked : goal.returns-clause-blocked
returns-clause-blocked c = grind (arith, blocked-after)
