use Rattle.std.proofs.Common.{◌≡◌, ap, drop, sym, ◌∙◌, arith, rules}
use Rattle.std.{proofs.lemmas.Bool.Decides.nat_tests, proofs.lemmas.Result.err_from_is_err_and}
use Rattle.sixel_base.specs.Dcs.{dcs_status}
use Rattle.icy_sixel.{proofs.Chunks.{IsSame, count_fits, same}, specs.Receiver.{OfString, start_of}}
use Rattle.sixel.proofs.DcsSequences.{faultless_by, followed_joined, refused_at_end}
use Rattle.sixel.specs.Sequences.{rest_by}
use Rattle.sixel.proofs.sequences.read_sequence.Goals as goal

pub returns-in_err-image-clause-refused : goal.returns-in_err-image-clause-refused
returns-in_err-image-clause-refused c =
    grind (arith, nat_tests, err_from_is_err_and, refused_at_end)

-- no row was released
stored : (c : goal.After-bytes_after) → c.feed_chunks.new.receiver.image.released ≡ 0
stored c = c.in_ok-fed.ensures.released ∙ ap (λ i. i.released) c.begin_dcs.ensures.image

pub returns-clause-image : goal.returns-clause-image
returns-clause-image c =
    let s = c.in_ok-fed.ensures in
    let decoded = (c.in_ok-image.ensures.finished (stored c)).finished.as_decoded s.whole.left in
    let whole = followed_joined _ _ s.whole in
    (rw (s.start, c.begin_dcs.ensures.image, s.form, whole) at decoded).1

pub returns-clause-registers : goal.returns-clause-registers
returns-clause-registers c =
    let s = c.in_ok-fed.ensures in
    let decoded = (c.in_ok-image.ensures.finished (stored c)).finished.as_decoded s.whole.left in
    let left = (rw (s.start, c.begin_dcs.ensures.image, s.form) at decoded).2 in
    search (rules, left)

-- what was fed means what all bytes do
all : (c : goal.After-bytes_after)
    → IsSame (start_of c.args.receiver.now).pixel_limit OfString
    c.feed_chunks.new.receiver.image.bytes c.args.bytes.now
all c = same _ _ _ _ c.in_ok-fed.ensures.whole

pub bytes_after-requires : goal.bytes_after-requires
bytes_after-requires c =
    let s = c.in_ok-fed.ensures in
    let all = same (start_of c.args.receiver.now).pixel_limit _ _ _ s.whole in
    omega (arith, s.consumed, all.same.counted, count_fits OfString c.args.bytes.now)

pub returns-clause-faultless : goal.returns-clause-faultless
returns-clause-faultless c = grind (arith, nat_tests, faultless_by)

pub returns-clause-rest : goal.returns-clause-rest
returns-clause-rest c =
    let s = c.in_ok-fed.ensures in
    c.bytes_after.ensures (dcs_status c.args.bytes.now) (s.status ∙ sym (all c).same.stands)
    ∙ ap (λ n. rest_by (dcs_status c.args.bytes.now) (drop n c.args.bytes.now))
    (s.consumed ∙ sym (all c).same.counted)
