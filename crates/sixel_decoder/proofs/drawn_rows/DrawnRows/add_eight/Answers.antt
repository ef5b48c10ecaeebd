use Rattle.std.proofs.Common.{ℕ, List, length, ◌≡◌, max, ap, sym, ◌∙◌, arith}
use Rattle.std.proofs.lemmas.Nat.{le_bytes_8}
use Rattle.std.specs.{Int.{to_le_bytes, w64}, Int.Bits.bit_or, Simd.Lanes.{fold_l, zip2}}
use Rattle.sixel_base.specs.DrawnHeight.{lowered, set_rows}
use Rattle.sixel_decoder.specs.{inside.DrawnRows.together, inside.Runs.most_rows}
use Rattle.sixel_decoder.proofs.drawing.SetRows.{bytes-or, length-bytes, lowered-again}
use Rattle.sixel_decoder.proofs.drawing.SetRows.{most_rows-zip, set_rows-fold, set_rows-or}
use Rattle.sixel_decoder.proofs.drawn_rows.DrawnRows.add_eight.Goals as goal

pub returns : goal.returns
returns c = λ top.
    let old = c.args.self.now in
    let bits : List ℕ = c.args.bits in
    let more : ℕ = c.from_le_bytes.result in
    let before : List ℕ = to_le_bytes w64 old.eights in
    let after : List ℕ = to_le_bytes w64 (bit_or old.eights more) in
    let eight : length bits ≡ 8 = grind (arith, c.well_formed) in
    let read : to_le_bytes w64 more ≡ bits =
    le_bytes_8 bits more eight (λ k. omega (arith, c.requires k)) c.from_le_bytes.ensures in
    let joined : after ≡ zip2 bit_or before bits =
    bytes-or old.eights more ∙ ap (zip2 bit_or before) read in
    let rows : set_rows (bit_or old.bits (fold_l bit_or 0 after))
    ≡ max (set_rows (together old)) (most_rows bits) =
    omega (
      arith,
      set_rows-or old.bits (fold_l bit_or 0 after),
      set_rows-fold 0 after,
      ap most_rows joined,
      most_rows-zip before bits (length-bytes old.eights ∙ sym eight),
      set_rows-or old.bits (fold_l bit_or 0 before),
      set_rows-fold 0 before,
    ) in
    ap (lowered old.above top) rows
    ∙ sym (lowered-again old.above top (set_rows (together old)) (most_rows bits))
