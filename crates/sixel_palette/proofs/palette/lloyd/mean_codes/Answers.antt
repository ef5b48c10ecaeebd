use Rattle.std.proofs.{Common.{◌≡◌, ◌<◌, get_or, ap, ◌∙◌, arith}, lemmas.List.get_or_default}
use Rattle.std.proofs.{lemmas.List.length_push, lemmas.List.Elements.All-push}
use Rattle.sixel_palette.specs.{Lloyd.mean_bytes, declared.palette.bins.Bin.Bin}
use Rattle.sixel_palette.specs.{inside.Codes.{code_count, color_of}, inside.Sums.total}
use Rattle.sixel_palette.proofs.colors.Lists.{each_push}
use Rattle.sixel_palette.proofs.palette.lloyd.mean_codes.Goals as goal

pub loop-bin-preserved : goal.loop-bin-preserved
loop-bin-preserved c =
    let codes = c.loop-bin.codes.items in
    let index = c.loop-bin.bin-index in
    let code = c.mean_code.result in
    let h = c.loop-bin.invariant in
    rw c.in_ok-push.ensures.items (record {
      small = All-push (λ code. code < code_count) codes code h.small c.mean_code.ensures.small;
      size = omega (arith, length_push codes code, h.size);
      means = λ k d.
          each_push (λ i x. color_of x ≡ mean_bytes (total (get_or c.args.bins.now i d).sums)) codes
          code 0 index h.size (λ i. h.means i d)
          (c.mean_code.ensures.mean
          ∙ ap (λ (b : Bin). mean_bytes (total b.sums))
          (c.bin-item.is ∙ get_or_default c.args.bins.now index _ d (omega arith))) k;
    })
