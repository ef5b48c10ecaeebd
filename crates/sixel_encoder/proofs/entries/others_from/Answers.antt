use Rattle.std.proofs.Common.{arith, sym, ◌∙◌}
use Rattle.std.proofs.lemmas.Simd.{none_from_empty_mask, run_in_chunk_fails, run_in_chunk_le}
use Rattle.sixel_encoder.proofs.band_rows.Lanes.{entries_mask, first_one, is_one, other_from}
use Rattle.sixel_encoder.proofs.entries.others_from.Goals as goal

pub returns-then-some-eq0-clause-others : goal.returns-then-some-eq0-clause-others
returns-then-some-eq0-clause-others c = λ k e from to le.
    let is = is_one c.args.first c.args.count in
    let mask = entries_mask c.args.indices.now c.args.at c.args.first c.args.count (omega arith) in
    other_from c.args.first c.args.count _ e c.requires.first c.requires.count le
    (none_from_empty_mask is c.args.indices.now c.args.at 32 0 (omega arith)
    (sym mask ∙ c.if-some-eq0.true) k from to)

pub returns-else-some-eq0-clause-few : goal.returns-else-some-eq0-clause-few
returns-else-some-eq0-clause-few c =
    let is = is_one c.args.first c.args.count in
    let mask = entries_mask c.args.indices.now c.args.at c.args.first c.args.count (omega arith) in
    run_in_chunk_le is c.args.indices.now c.args.at 32 _ 0 (omega arith)
    (first_one 32 is c.args.indices.now c.args.at _ (omega arith) (omega arith) mask
    c.if-some-eq0.false)

pub returns-else-some-eq0-clause-others : goal.returns-else-some-eq0-clause-others
returns-else-some-eq0-clause-others c = λ k e from to le.
    let is = is_one c.args.first c.args.count in
    let mask = entries_mask c.args.indices.now c.args.at c.args.first c.args.count (omega arith) in
    other_from c.args.first c.args.count _ e c.requires.first c.requires.count le
    (run_in_chunk_fails is c.args.indices.now c.args.at 32 _ 0 (omega arith)
    (first_one 32 is c.args.indices.now c.args.at _ (omega arith) (omega arith) mask
    c.if-some-eq0.false) k from to)
