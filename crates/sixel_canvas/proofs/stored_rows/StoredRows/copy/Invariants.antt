use Rattle.std.proofs.Common.{◌≡◌, ◌*◌, length}
use Rattle.sixel_canvas.specs.Layout.{AreCopied, stored_pixel}
use Rattle.sixel_canvas.proofs.stored_rows.StoredRows.copy.Given as goal

abbrev pub invariant-copied : goal.invariant-copied
invariant-copied l =
    (l.len ≡ 4 * l.layout.columns)
    × (length l.out ≡ length l.fn.out)
    × AreCopied (stored_pixel l.self.bytes.now l.self.width l.self.rows l.self.background) l.first
    l.row l.layout l.fn.out l.out
