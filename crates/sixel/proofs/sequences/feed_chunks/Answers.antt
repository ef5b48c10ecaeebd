use Rattle.std.proofs.Common.{refl, arith, length-append}
use Rattle.std.proofs.lemmas.{Bool.Decides.nat_tests, Result.err_from_is_err_and}
use Rattle.icy_sixel.proofs.Chunks.{count_fits}
use Rattle.sixel.proofs.DcsSequences.{fed_more, refused_early}
use Rattle.sixel.proofs.sequences.feed_chunks.Goals as goal

pub returns-in_err-feed-clause-refused : goal.returns-in_err-feed-clause-refused
returns-in_err-feed-clause-refused c =
    let p = err_from_is_err_and c.from_residual.result c.from_residual.ensures.1 in
    let before = c.chunks.invariant in
    let fed = c.in_err-feed.ensures.fed in
    let split = c.split_chunk.ensures in
    let joined =
    fed_more _ _ _ _ _ _ _ split.chunk split.after (fed.bytes (rw before.form refl))
    before.joined in
    let refused = fed.string_refused_for_good c.in_err-feed.field-0.0.error
    c.split_chunk.result.1.now before.form refl before.accepted in
    rw (p.1, p.2) (refused_early _ _ c.args.receiver.now.image.start.pixel_limit
    c.args.bytes.now c.requires.some (rw (joined, before.start) at refused))

pub total-fed-requires : goal.total-fed-requires
total-fed-requires c = grind (arith, nat_tests, fed_more, count_fits, length-append)
