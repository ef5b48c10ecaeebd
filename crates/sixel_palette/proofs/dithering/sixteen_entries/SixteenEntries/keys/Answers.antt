use Rattle.std.proofs.Common.{get_or, arith}
use Rattle.sixel_palette.proofs.mapped_images.DiffusionLanes.{lanes, lanes-cast, lanes-splat}
use Rattle.sixel_palette.proofs.mapped_images.DiffusionLanes.{lanes-times}
use Rattle.sixel_palette.proofs.nearest_entries.SixteenEntries.{byte_lanes, key_at}
use Rattle.sixel_palette.proofs.dithering.sixteen_entries.SixteenEntries.keys.Goals as goal

pub returns : goal.returns
returns c = λ colors tolerance k are l.
    let target = c.args.target in
    let small = byte_lanes target c.fits-target.1 in
    let scaled =
    lanes-cast _ _
    (lanes-times _ _ (λ k. get_or target k 0) (λ k. 128)
    (lanes-cast _ _ (lanes target c.fits-target.0)) (lanes-splat 128)
    (λ k l. omega (arith, small k))) in
    key_at colors c.args.self.now target c.row.result c.row-2.result c.channel.result
    c.channel-2.result c.channel-3.result _ _ _ tolerance c.args.before c.args.above k are small l
    c.requires.before c.requires.above c.row.ensures.sixteen c.row-2.ensures.sixteen
    c.channel.ensures.sixteen c.channel-2.ensures.sixteen c.channel-3.ensures.sixteen
    (c.row.ensures.each k l) (c.row-2.ensures.each k l) (c.channel.ensures.each k l)
    (c.channel-2.ensures.each k l) (c.channel-3.ensures.each k l) (scaled.each 0 (omega arith))
    (scaled.each 1 (omega arith)) (scaled.each 2 (omega arith))
