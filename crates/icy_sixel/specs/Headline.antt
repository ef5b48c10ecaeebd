-- The theorem of this library. `script::run` returns such outcomes, and `encode_with` such a text,
-- unless an allocation fails.
use Rattle.std.specs.{List.AllZip, Prelude.{◌≡◌, ◌≢◌, ◌<◌, ℕ, false, List, length, All, None}}
use Rattle.sixel_base.specs.declared.error.SixelError.TheVariants.{OutOfMemory}
use Rattle.sixel_base.specs.declared.state.DecoderState.{DecoderState}
use Rattle.sixel_base.specs.{Bytes.front, Decoder.new_decoder, History.{History, IsHistory}}
use Rattle.sixel_base.specs.{History.history_of, Limits.whole_limit, Payload.Image}
use Rattle.sixel_palette.specs.{Palette.{IsShown, nearest}, PaletteBound.NoListIsBetter}
use Rattle.sixel_encoder.specs.Encoding.{AreShortest, IsDrawing, IsText, image_fault, shown_image}
use Rattle.sixel_encoder.specs.{Text.{Drawing, text_of}, Trip.{IsOneString, IsReadAs, trip}}
use Rattle.icy_sixel.specs.Script.{AreOutcomes, IsRecut, IsSameOutcome}
use Rattle.icy_sixel.specs.declared.{script.Outcome.Outcome, script.Outcome.TheVariants.Failed}
use Rattle.icy_sixel.specs.declared.script.Step.{Step}

-- The text is the one SIXEL output of the image in at most `max_colors` colors.
pub record IsFaithful (image : Image) (max_colors : ℕ) (text : List ℕ) : Type 0 where
  -- it draws each opaque pixel in the nearest color of a palette, and no other pixel
  pub drawing : Drawing
  pub drawn : IsDrawing image max_colors drawing
  pub written : text ≡ text_of drawing
  -- it is one DCS sequence
  pub whole : IsOneString whole_limit text
  -- a new decoder reads back these colors, rounded to percentages, and background elsewhere
  pub read_back : IsReadAs new_decoder text (trip false drawing)
  -- the palette's squared error is at most four times that of any palette of its size
  pub bound : (c : List ℕ) → IsShown image.pixels c
      → NoListIsBetter (IsShown image.pixels) (length drawing.colors) (nearest drawing.colors c)
  -- each row of a color is spelled in the fewest bytes
  pub shortest : AreShortest drawing
  -- colors of transparent pixels never show: no image with the same opaque pixels has another text
  pub hidden : (other : Image) (bytes : List ℕ) → shown_image other ≡ shown_image image
      → IsText other max_colors bytes → bytes ≡ text

pub record Headline : Type 0 where
  -- The bytes of every payload are one list of tokens, which reading them one by one gives.
  pub tokens : (bytes : List ℕ) → IsHistory (front bytes) (history_of (front bytes))
  pub no_others : (bytes : List ℕ) (other : History) → IsHistory (front bytes) other
      → other ≡ history_of (front bytes)
  -- Every list of images, resets and settings on one decoder has the same outcomes, however cut.
  pub cut : (before after : DecoderState) (steps others : List Step) (outcomes : List Outcome)
      → AllZip IsRecut steps others → AreOutcomes before steps outcomes after
      → AreOutcomes before others outcomes after
  -- Memory aside, it has one list of outcomes, and leaves one decoder.
  pub one : (before after end : DecoderState) (steps : List Step) (outcomes others : List Outcome)
      → AreOutcomes before steps outcomes after → AreOutcomes before steps others end
      → All (λ outcome. outcome ≢ Failed OutOfMemory) outcomes
      → All (λ outcome. outcome ≢ Failed OutOfMemory) others
      → AllZip IsSameOutcome outcomes others × (end ≡ after)
  -- Every image within the limits has a text that means it.
  pub text : (image : Image) (max_colors : ℕ) → image_fault image ≡ None
      → All (λ byte. byte < 256) image.pixels → (text : List ℕ) × IsFaithful image max_colors text
