use Rattle.std.proofs.Common.{rules}
use Rattle.sixel_decoder.proofs.images.FoundPayloads.{tail_whole}
use Rattle.sixel_decoder.proofs.one_shot.decode_found.Goals as goal

pub returns-in-Err-clause-decoded : goal.returns-in-Err-clause-decoded
returns-in-Err-clause-decoded c =
    let fault = rw (tail_whole c.in-Some.start c.args.bytes.now) at c.in-Err.ensures.error in
    rw c.in-Some.ensures.found (search (rules, fault))
