use Rattle.std.proofs.Common.{◌<◌, [], take, get_or, arith}
use Rattle.std.specs.Prelude.{All}
use Rattle.std.proofs.lemmas.{List.{get_or_default, take_more}, List.Elements.All-push}
use Rattle.sixel_palette.proofs.palette.nearest_indices.color_bytes.Goals as goal

pub loop-index-preserved : goal.loop-index-preserved
loop-index-preserved c =
    let colors = c.args.colors.now in
    let index = c.loop-index.index in
    rw (take_more colors index [] (omega arith))
    (All-push (All (λ byte. byte < 256)) (take index colors) (get_or colors index [])
    c.loop-index.invariant
    (λ k d l. omega (
      arith,
      get_or_default (get_or colors index []) k d 0 l,
      c.channel_bytes.ensures k (omega arith),
    )))
