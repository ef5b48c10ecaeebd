use Rattle.std.proofs.Common.{◌≡◌, true, sym, ◌∙◌}
use Rattle.sixel_canvas.{specs.inside.Tags.is_tag, proofs.TaggedRows.untagged_row}
use Rattle.sixel_canvas.specs.inside.TaggedRow.{IsUntagged, tagged_row_state}
use Rattle.sixel_canvas.proofs.tagged_row.TaggedRow.untag.Goals as goal

-- the row as it was, and what was done to it
is_untagged : (c : goal.After-paint-3)
    → IsUntagged (tagged_row_state c.self.inside.row c.self.inside.tags c.self.inside.appended)
    (tagged_row_state c.paint-2.new.self c.paint-3.new.self c.self.inside.appended) c.args.tile
    c.args.from c.args.to
is_untagged c =
    let all = c.self.inside in
    let visible : is_tag c.pixel-tag.result ≡ true =
    sym c.is_visible.ensures ∙ c.if-not-is_visible.false in
    untagged_row (tagged_row_state all.row all.tags all.appended) c.pixel-tag.result
    c.paint.new.self c.paint-2.new.self c.paint-3.new.self c.args.tile c.args.from c.args.to
    c.clamp.result c.clamp-2.result c.self.invariant visible c.pixel-tag.ensures.value
    c.requires.ordered c.clamp.ensures c.clamp-2.ensures c.paint.ensures.after
    c.paint-2.ensures.after c.paint-3.ensures.after c.paint-2.ensures.thrifty
    c.paint-3.ensures.thrifty

pub invariant_of-self : goal.invariant_of-self
invariant_of-self c = (is_untagged c).sound

pub returns : goal.returns
returns c = rw (← c.self.view_is) (is_untagged c)
