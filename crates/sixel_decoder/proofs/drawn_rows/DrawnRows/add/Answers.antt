use Rattle.std.proofs.Common.{ℕ, ◌≡◌, max, ap, sym, ◌∙◌, arith}
use Rattle.std.specs.{Int.{to_le_bytes, w64}, Int.Bits.bit_or, Simd.Lanes.fold_l}
use Rattle.sixel_base.specs.DrawnHeight.{lowered, set_rows}
use Rattle.sixel_decoder.specs.inside.DrawnRows.{together}
use Rattle.sixel_decoder.proofs.drawing.SetRows.{lowered-again, set_rows-or}
use Rattle.sixel_decoder.proofs.drawn_rows.DrawnRows.add.Goals as goal

pub returns : goal.returns
returns c = λ top.
    let old = c.args.self.now in
    let lanes : ℕ = fold_l bit_or 0 (to_le_bytes w64 old.eights) in
    let more : set_rows (bit_or (bit_or old.bits c.args.bits) lanes)
    ≡ max (set_rows (together old)) (set_rows c.args.bits) =
    omega (
      arith,
      set_rows-or (bit_or old.bits c.args.bits) lanes,
      set_rows-or old.bits c.args.bits,
      set_rows-or old.bits lanes,
    ) in
    ap (lowered old.above top) more
    ∙ sym (lowered-again old.above top (set_rows (together old)) (set_rows c.args.bits))
