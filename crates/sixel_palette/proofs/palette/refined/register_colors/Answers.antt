use Rattle.std.proofs.{Common.{get_or, sym, arith}, lemmas.List.map_more}
use Rattle.std.proofs.lemmas.List.Elements.{All-push}
use Rattle.sixel_palette.specs.{Refined.{IsRegisterColor, register_color}, inside.Codes.color_of}
use Rattle.sixel_palette.proofs.refinement.Refined.{register_color-shown}
use Rattle.sixel_palette.proofs.palette.refined.register_colors.Goals as goal

pub loop-position-preserved : goal.loop-position-preserved
loop-position-preserved c =
    let codes = c.args.codes.now in
    let i = c.loop-position.position in
    let h = c.loop-position.invariant in
    let color = color_of (get_or codes i 0) in
    rw (c.in_ok-push.ensures.items, c.register_color.ensures, c.color_of.ensures) (record {
      shown =
          All-push IsRegisterColor c.loop-position.colors.items (register_color color) h.shown
          (register_color-shown color);
      same =
          rw h.same (sym (map_more (λ code. register_color (color_of code)) codes i 0
          (omega arith)));
    })
