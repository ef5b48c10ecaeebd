use Rattle.std.proofs.Common.{arith, length-append}
use Rattle.icy_sixel.proofs.Chunks.{count_fits}
use Rattle.icy_sixel.proofs.script.session.feed_chunk.Goals as goal

pub overflow_add-fed : goal.overflow_add-fed
overflow_add-fed c =
    let is = c.requires in
    grind (arith, c.in_ok-fed.ensures, count_fits, is.open, length-append, is.capacity, is.counted)
