use Rattle.std.{proofs.Common.{[], Bor, List, ℕ}, proofs.KnownBytes.Appends-nil}
use Rattle.std.proofs.lemmas.Result.{err_from_is_err_and}
use Rattle.icy_sixel.{specs.ImageView.image_value, specs.Receiver.start_of}
use Rattle.sixel.{proofs.ImageSequences.Serves-broken, specs.Sequences.{Broken, HasEnded}}
use Rattle.sixel.proofs.sequences.write_sequence.Goals as goal

pub returns-in_err-image-clause-stopped : goal.returns-in_err-image-clause-stopped
returns-in_err-image-clause-stopped g c =
    let p = err_from_is_err_and c.from_residual.result c.from_residual.ensures.1 in
    rw (p.1, p.2) (
      [],
      Broken (start_of c.args.receiver.now) c.args.bytes.now _ c.in_err-image.ensures.refused,
      Appends-nil _,
    )

pub returns-clause-stopped : goal.returns-clause-stopped
returns-clause-stopped g c =
    let s = c.in_ok-image.ensures in
    let image = image_value c.in_ok-image.image in
    let sequence : HasEnded (start_of c.args.receiver.now) c.args.bytes.now image
    (start_of c.read_sequence.new.receiver) =
    record {
      some = c.requires.some;
      faultless = s.faultless;
      shows = s.image;
      leaves = s.registers;
      set = s.set;
    } in
    Serves-broken (Unit {0}) (Bor (List ℕ)) c.in-Err.fault _ _ _ image
    (g.O.Write.contents c.args.output.now) (g.O.Write.contents c.write_image.new.output) sequence
    c.in-Err.ensures
