use Rattle.sixel_encoder.specs.inside.Indexed.{drawing_of}
use Rattle.sixel_encoder.proofs.compact_form.Steps.{AreNumbersOf-ranks, marked-joined}
use Rattle.sixel_encoder.proofs.compact.encode_marked.Goals as goal

pub push_bands-requires-clause-writer : goal.push_bands-requires-clause-writer
push_bands-requires-clause-writer c = rw c.in_ok-new.ensures.image record {
  indexed = c.requires;
  spare = c.in_ok-new.ensures.spare;
  numbered = rw c.deref-4.ensures.value (AreNumbersOf-ranks _ _ _ c.in_ok-runs.ensures
      (rw c.deref.ensures.value at c.in_ok-numbers.ensures));
  wide = c.in_ok-new-2.ensures;
}

pub returns-clause-text : goal.returns-clause-text
returns-clause-text c =
    marked-joined (drawing_of c.args.image.now) _ _ _ c.in_ok-text.ensures
    c.in_ok-push_numbered.ensures (rw c.in_ok-new.ensures.image at c.in_ok-plain_bytes.ensures.text)

pub returns-clause-plain : goal.returns-clause-plain
returns-clause-plain c = rw c.in_ok-new.ensures.image at c.in_ok-plain_bytes.ensures.plain
