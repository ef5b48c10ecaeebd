use Rattle.sixel.proofs.Outputs.{Serves-image, Serves-shared, Serves-whole}
use Rattle.sixel.proofs.picture.write_picture.Goals as goal

pub returns-in_ok-image-in-Pam : goal.returns-in_ok-image-in-Pam
returns-in_ok-image-in-Pam g c =
    let decoded = c.in_ok-image-in-Pam.ensures in
    rw c.in-Pam.is (Serves-shared _ _ _ _ _ c.map_err.ensures.cases
    (Serves-image _ _ _ _ _ _ _ decoded.faultless decoded.image c.write_pam.ensures))

pub returns-in_ok-text-in-Draw : goal.returns-in_ok-text-in-Draw
returns-in_ok-text-in-Draw g c =
    rw c.in-Draw.is (Serves-shared _ _ _ _ _ c.map_err-in-Draw.ensures.cases
    (Serves-whole _ _ _ _ _ c.write_all.ensures
    (rw c.as_bytes.ensures.value c.in_ok-text-in-Draw.ensures)))
