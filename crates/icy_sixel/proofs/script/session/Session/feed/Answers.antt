use Rattle.std.proofs.Common.{◌≡◌, ◌++◌, inr, ap, sym, ◌∙◌}
use Rattle.icy_sixel.specs.{inside.Session.IsWhole, Receiver.has_ended}
use Rattle.icy_sixel.proofs.Chunks.{rejoined, IsSame, same, refusal, has_ended-status}
use Rattle.icy_sixel.proofs.script.session.Session.feed.Goals as goal

-- ---- where the image has ended

joined : (c : goal.In_default)
    → c.feed_chunk.new.receiver.image.bytes ++ c.split_chunk.result.1.now
    ≡ c.args.self.now.bytes.now
joined c =
    rejoined _ _ _ _ _ _ c.feed_chunk.ensures.bytes c.split_chunk.ensures
    c.loop-cut.invariant.joined

whole : (c : goal.In_default)
    → IsWhole c.args.receiver.now.image.form c.feed_chunk.new.receiver.image.bytes
    c.args.self.now.bytes.now
whole c =
    let form = c.args.receiver.now.image.form in
    let fed = c.feed_chunk.new.receiver.image.bytes in
    record {
      left = c.split_chunk.result.1.now;
      joined = joined c;
      over =
          inr
          (sym (has_ended-status form fed)
          ∙ (ap has_ended (sym (rw c.loop-cut.invariant.form at c.in-Ok.ensures.status))
          ∙ (sym c.has_ended.ensures ∙ c.if-not-has_ended.false)));
    }

one : (c : goal.In_default)
    → IsSame c.args.receiver.now.image.start.pixel_limit c.args.receiver.now.image.form
    c.feed_chunk.new.receiver.image.bytes c.args.self.now.bytes.now
one c = same _ _ _ _ (whole c)

pub returns-in_default-clause-whole : goal.returns-in_default-clause-whole
returns-in_default-clause-whole c = whole c

pub returns-in_default-clause-faultless : goal.returns-in_default-clause-faultless
returns-in_default-clause-faultless c =
    (one c).same.faults
    ∙ (rw (c.loop-cut.invariant.start, c.loop-cut.invariant.form) at c.in-Ok.ensures.faultless)

pub returns-in_default-clause-consumed : goal.returns-in_default-clause-consumed
returns-in_default-clause-consumed c =
    (rw c.loop-cut.invariant.form at c.in-Ok.ensures.consumed) ∙ sym (one c).same.counted

pub returns-in_default-clause-status : goal.returns-in_default-clause-status
returns-in_default-clause-status c =
    (rw c.loop-cut.invariant.form at c.in-Ok.ensures.status) ∙ sym (one c).same.stands

-- ---- where it is rejected

pub returns-in_default-2-clause-error : goal.returns-in_default-2-clause-error
returns-in_default-2-clause-error c =
    refusal _ c.feed_chunk.result c.args.receiver.now.image.start.pixel_limit _
    c.feed_chunk.new.receiver.image.bytes _ _ _
    (rejoined _ _ _ _ _ _ c.feed_chunk.ensures.bytes c.split_chunk.ensures
    c.loop-cut.invariant.joined)
    (rw (c.loop-cut.invariant.start, c.loop-cut.invariant.form) at c.feed_chunk.ensures.error)
