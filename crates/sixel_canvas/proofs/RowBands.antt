-- A band of a canvas of rows that was drawn on: which rows of the canvas are its own.
use Rattle.std.proofs.Common.{◌≡◌, ℕ, ◌*◌, ◌/◌, ◌%◌, ◌<◌, List, [], length, get_or, set, ◌∙◌, arith}
use Rattle.std.specs.Prelude.{if◌then◌else◌}
use Rattle.sixel_base.specs.Picture.{is_struck}
use Rattle.sixel_canvas.specs.inside.{RowBand.line_in, TaggedRow.TaggedRowState}
use Rattle.sixel_canvas.proofs.RowCosts.{band_made}
use Rattle.std.proofs.lemmas.{Bool.Decides.nat_tests, Grind.common_steps, List.get_or_default}

-- the rows of a band that was made, whatever stands for others
pub band_read : (bands : List (List TaggedRowState)) (band : ℕ) (rows : List TaggedRowState)
    → 0 < length (get_or bands band []) → rows ≡ get_or bands band rows
    → rows ≡ get_or bands band []
band_read bands band rows some read =
    read ∙ get_or_default bands band rows [] (band_made bands band some)

-- what is seen of each row, once a sixel was drawn on the rows of a band
pub band_drawn : {X : Type 0} (see : TaggedRowState → X) (stroke : X → X)
    (bands : List (List TaggedRowState)) (rows : List TaggedRowState) (background : List ℕ)
    (band bits row : ℕ) → 0 < length (get_or bands band [])
    → ((k : ℕ)
    → see (line_in rows background k)
    ≡ (if is_struck 0 bits k then stroke (see (line_in (get_or bands band []) background k))
    else see (line_in (get_or bands band []) background k)))
    → see (line_in (get_or (set bands band rows) (row / 6) []) background (row % 6))
    ≡ (if is_struck (6 * band) bits row
    then stroke (see (line_in (get_or bands (row / 6) []) background (row % 6)))
    else see (line_in (get_or bands (row / 6) []) background (row % 6)))
band_drawn see stroke bands rows background band bits row some drawn =
    grind (arith, common_steps, nat_tests)
