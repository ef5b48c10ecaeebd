use Rattle.std.proofs.Common.{◌≡◌, ℕ, List, Option, refl, Ok, Err, Result, arith, unwrap_or}
use Rattle.std.proofs.lemmas.Bool.Decides.{nat_tests}
use Rattle.sixel_base.specs.declared.error.SixelError.{SixelError}
use Rattle.icy_sixel.specs.{ReceivedRows.{AreRowsCopied, RowLayout}, Receiver.Reception}
use Rattle.icy_sixel.specs.ReceiverCalls.{IsSizeSoFar}
use Rattle.icysixel.specs.{RowCopies.{columns_so_far, layout_of}, declared.layout.Layout.Layout}
use Rattle.icysixel.proofs.rows.copy_rows.Goals as goal

-- so the layout is that of all columns so far
layout_is : (image : Reception) (answer : Option (ℕ × ℕ)) (layout : Layout)
    → IsSizeSoFar image answer
    → layout_of (unwrap_or answer (0, 0)).0 layout ≡ layout_of (columns_so_far image) layout
layout_is image answer layout is = grind (arith, nat_tests)

-- a copy by the same layout
copied_at : (image : Reception) (first rows : ℕ) (old new : List ℕ) (layout other : RowLayout)
    (result : Result (Unit {0}) SixelError) → layout ≡ other
    → AreRowsCopied image first rows layout old new result
    → AreRowsCopied image first rows other old new result
copied_at image first rows old new layout other result = grind (arith, nat_tests)

pub returns-in-Ok-clause-copied : goal.returns-in-Ok-clause-copied
returns-in-Ok-clause-copied c =
    let image = c.args.state.now.receiver.image in
    let same : c.row_layout.result ≡ layout_of (columns_so_far image) c.args.layout.now =
    rw (c.row_layout.ensures, c.unwrap_or-width.ensures)
    (layout_is image _ c.args.layout.now c.size_so_far.ensures) in
    record {
      closed = λ shut. absurd (grind (arith, shut));
      opened = λ _. record {
        result = Ok tt;
        copied = copied_at image c.args.first c.args.rows c.args.buf.now _ _ _ _ same
            c.in-Ok.ensures.copied;
        told = refl;
      };
    }

pub returns-in-Err-clause-copied : goal.returns-in-Err-clause-copied
returns-in-Err-clause-copied c =
    let image = c.args.state.now.receiver.image in
    let same : c.row_layout.result ≡ layout_of (columns_so_far image) c.args.layout.now =
    rw (c.row_layout.ensures, c.unwrap_or-width.ensures)
    (layout_is image _ c.args.layout.now c.size_so_far.ensures) in
    record {
      closed = λ shut. absurd (grind (arith, shut));
      opened = λ _. record {
        result = Err c.in-Err.error;
        copied = copied_at image c.args.first c.args.rows c.args.buf.now _ _ _ _ same
            c.in-Err.ensures.copied;
        told = c.rows_code.ensures;
      };
    }
