-- The second trip: what a transparent image has become by a trip it stays, if it may use as many
-- colors again.
use Rattle.std.proofs.Common.{◌≡◌, ℕ, zero, suc, ◌+◌, ◌*◌, ◌<◌, ◌≤◌, Bool, true, false, List, []}
use Rattle.std.proofs.Common.{◌∷◌, map, length, refl, ap, sym, subst, ◌∙◌, arith, Some, None}
use Rattle.std.specs.Prelude.{Option, slice_index_or, All, Contains}
use Rattle.std.proofs.lemmas.{Bool.Decides.nat_tests, List.length-map, Nat.mul-add-lt}
use Rattle.sixel_base.specs.declared.settings.BackgroundMode.TheVariants.{Transparent}
use Rattle.sixel_base.specs.declared.state.DecoderState.{DecoderState}
use Rattle.sixel_palette.specs.Palette.{IsShown, IsOpaque, HasSize, color_at}
use Rattle.sixel_base.specs.{Payload.Image, Picture.picture}
use Rattle.sixel_palette.proofs.mapped_images.DiffusionLaws.{nearest-own}
use Rattle.sixel_palette.proofs.traversal.{Choices.three_from_shown, Order.members_from_order}
use Rattle.sixel_palette.proofs.traversal.Size.{complete_from_size, size-le}
use Rattle.sixel_encoder.specs.{Encoding.{image_fault, IsDrawing, IsText}, Text.{Drawing, entry_at}}
use Rattle.sixel_encoder.specs.{Text.bands, Trip.{IsWritable, CanRead, rounded, trip_pixel}}
use Rattle.sixel_encoder.specs.Trip.{trip_height, trip, IsTrip, IsReadAs, is_used, bands_up_to}
use Rattle.sixel_encoder.proofs.round_trip.DrawnHeight.{bands_up_to-le, bands_up_to-none}
use Rattle.sixel_encoder.proofs.round_trip.DrawnHeight.{bands_up_to-more}
use Rattle.sixel_encoder.proofs.round_trip.{Percentages.rounded-rounded, Trip.picture-same}
use Rattle.sixel_encoder.proofs.round_trip.{Trip.image-same, TripLimits.IsWritable-drawn}
use Rattle.sixel_encoder.proofs.round_trip.TripLimits.{image_fault-trip, bytes-trip, bands-trip}
use Rattle.sixel_encoder.proofs.round_trip.TripPixels.{entry_in, known_in, rounded_entry}
use Rattle.sixel_encoder.proofs.round_trip.TripPixels.{length-trip, alpha-some, color-some}
use Rattle.sixel_encoder.proofs.round_trip.TripPixels.{alpha-none, shown-among}
use Rattle.sixel_encoder.proofs.round_trip.UsedBands.{window-some, window-any}
use Rattle.sixel_encoder.specs.declared.form.TextForm.TheVariants.{Plain}
use Rattle.sixel_encoder.proofs.drawings.EncodedText.{read_back-form}

-- ---- an image and its trip, each drawn with as many colors

-- an image's drawing, and the drawing of its trip
record Again (crop : Bool) (max_colors : ℕ) (image : Image) (first second : Drawing) : Type 0 where
  from : IsDrawing image max_colors first
  is : IsWritable first
  mode : first.background_mode ≡ Transparent
  drawn : IsDrawing (trip crop first) max_colors second

module _ (crop : Bool) (max_colors : ℕ) (image : Image) (first second : Drawing) where
  -- the trip shows no more colors than the first palette has
  size-shown : (n : ℕ) → Again crop max_colors image first second
      → HasSize (IsShown (trip crop first).pixels) n → n ≤ length first.colors
  size-shown n again size =
      let fewer =
      size-le (IsShown (trip crop first).pixels) (three_from_shown (trip crop first).pixels) size.0
      (map (map rounded) first.colors) size.1 (λ c m. shown-among _ _ _ again.is again.mode m) in
      omega (arith, size.2, length-map first.colors (map rounded), fewer)

  -- so the second palette holds them all
  held : (c : List ℕ) → Again crop max_colors image first second
      → IsShown (trip crop first).pixels c → Contains second.colors c
  held c again m =
      let size = again.drawn.palette.size in
      let few = size-shown size.0 again size.1 in
      complete_from_size _ (three_from_shown (trip crop first).pixels) _ size.0
      again.drawn.palette.order size.1 (omega (arith, size.2, again.from.palette.size.2, few)) c m

-- a color that was rounded stays
rounded-all : (c : List ℕ) → map rounded (map rounded c) ≡ map rounded c
rounded-all [] = refl
rounded-all (n ∷ c) = grind (arith, nat_tests, rounded-rounded, rounded-all c)

module _ (crop : Bool) (max_colors : ℕ) (image : Image) (first second : Drawing)
    (again : Again crop max_colors image first second) where
  -- the entries have three channels each
  all_three : All (λ p. length p ≡ 3) second.colors
  all_three = λ k d l.
      three_from_shown _ _ (members_from_order _ _ again.drawn.palette.order k d l)

  -- a pixel with an entry has one again, of its rounded color
  again-some : (place entry : ℕ) → place < first.width * trip_height crop first
      → entry_in first place ≡ Some entry
      → (i : ℕ) × (entry_in second place ≡ Some i) × (i < length second.colors)
      × (slice_index_or second.colors i [] ≡ rounded_entry first entry)
  again-some place entry l e =
      let alpha = alpha-some crop first place again.is l entry e in
      let opaque : IsOpaque (trip crop first).pixels place = omega arith in
      let color = color-some crop first place again.is l entry e in
      let all = length-trip crop first again.is in
      let c : List ℕ = color_at (trip crop first).pixels place in
      let found = again.drawn.shown place (omega arith) opaque in
      let kept =
      held crop max_colors image first second c again (place, omega arith, opaque, refl) in
      (found.0, found.1, found.2.entry, nearest-own _ c _ all_three refl kept found.2 ∙ color)

  -- a pixel with none has none again
  again-none : (place : ℕ) → place < first.width * trip_height crop first
      → entry_in first place ≡ None → entry_in second place ≡ None
  again-none place l e = grind (arith, nat_tests, alpha-none, length-trip)

  -- each pixel is the same again
  pixel-again : (place : ℕ) → place < first.width * trip_height crop first
      → trip_pixel second (entry_in second place) ≡ trip_pixel first (entry_in first place)
  pixel-again place l = grind (arith, nat_tests, again-none, again-some, rounded-all)

  -- ---- the height

  -- a band with a place that has an entry again was used
  used-from_again : (band i entry : ℕ) → i < 6 * first.width
      → 6 * band * first.width + i < first.width * trip_height crop first
      → entry_in second (6 * band * first.width + i) ≡ Some entry → is_used first band ≡ true
  used-from_again band i entry low inside e = go (entry_in first (6 * band * first.width + i)) refl
    where
      go : (v : Option ℕ) → entry_in first (6 * band * first.width + i) ≡ v
          → is_used first band ≡ true
      go None f = let none = again-none (6 * band * first.width + i) inside f in absurd cc
      go (Some old) f = window-any _ _ _ _ _ low (known_in _ _ _ again.is f).0 f

  -- a band that is used again was used
  used-again : (band : ℕ) → is_used second band ≡ true → is_used first band ≡ true
  used-again band used =
      let found = window-some second.entries (6 * band * second.width) (6 * second.width) in
      grind (arith, nat_tests, length-trip, used-from_again, entry_in)

-- fewer used bands end no later
bands_up_to-less : (test other : ℕ → Bool) (n : ℕ) → ((k : ℕ) → test k ≡ true → other k ≡ true)
    → bands_up_to test n ≤ bands_up_to other n
bands_up_to-less test other zero less = omega (arith, bands_up_to-none test, bands_up_to-none other)
bands_up_to-less test other (suc n) less =
    let here = bands_up_to-more test n in
    grind (arith, nat_tests, bands_up_to-more, bands_up_to-le, bands_up_to-less test other n less)

-- the height is the same again
height-again : (crop : Bool) (max_colors : ℕ) (image : Image) (first second : Drawing)
    → Again crop max_colors image first second → trip_height crop second ≡ trip_height crop first
height-again true max_colors image first second again = again.drawn.height
height-again false max_colors image first second again =
    let tall : second.height ≡ trip_height false first = again.drawn.height in
    let count : bands second.height ≡ bands first.height = ap bands tall ∙ bands-trip false first in
    let same = ap (bands_up_to (is_used second)) count in
    let less =
    bands_up_to-less (is_used second) (is_used first) (bands first.height)
    (λ k yes_k. used-again false max_colors image first second again k yes_k) in
    omega arith

-- ---- the image

-- the pixels are the same again
pixels-again : (crop : Bool) (max_colors : ℕ) (image : Image) (first second : Drawing)
    → Again crop max_colors image first second
    → (trip crop second).pixels ≡ (trip crop first).pixels
pixels-again crop max_colors image first second again =
    let p : ℕ → ℕ → List ℕ = λ column row. trip_pixel second (entry_at second column row) in
    ap (λ w. picture p w (trip_height crop second)) again.drawn.width
    ∙ (ap (picture p first.width) (height-again _ _ _ _ _ again)
    ∙ picture-same _ _ _ _ (λ column line lc ll.
    ap (λ w. trip_pixel second (entry_in second (line * w + column))) again.drawn.width
    ∙ pixel-again _ max_colors image _ second again _ (mul-add-lt _ _ _ _ ll lc)))

-- a second trip changes nothing
pub trip-again : (crop : Bool) (image : Image) (max_colors : ℕ) (drawing : Drawing)
    → IsTrip crop image max_colors → image.background_mode ≡ Transparent
    → IsDrawing image max_colors drawing → trip crop drawing ≡ image
trip-again crop image max_colors drawing was mode drawn =
    let first : Drawing = was.1 in
    let same : image ≡ trip crop first = was.5 in
    let again : Again crop max_colors was.0 first drawing = record {
      from = was.4;
      is = IsWritable-drawn was.0 max_colors first was.4 was.2 was.3;
      mode = sym (ap (λ (i : Image). i.background_mode) same) ∙ mode;
      drawn = subst (λ (i : Image). IsDrawing i max_colors drawing) same drawn;
    } in
    image-same _ _ (pixels-again _ _ _ _ _ again) again.drawn.width (height-again _ _ _ _ _ again)
    again.drawn.aspect_ratio again.drawn.background_mode ∙ sym same

-- a transparent trip is read back as it is
pub text-again : (decoder : DecoderState) (image : Image) (max_colors : ℕ) (text : List ℕ)
    → IsTrip decoder.raster_crop image max_colors → image.background_mode ≡ Transparent
    → CanRead decoder image.width image.height → IsText image max_colors text
    → IsReadAs decoder text image
text-again decoder image max_colors text was mode reads is =
    let first = IsWritable-drawn was.0 max_colors was.1 was.4 was.2 was.3 in
    let sound : image_fault image ≡ None = grind (arith, nat_tests, image_fault-trip) in
    let bytes : All (λ byte. byte < 256) image.pixels = grind (arith, nat_tests, bytes-trip) in
    let read = read_back-form Plain decoder image max_colors text sound bytes reads is in
    rw (trip-again _ _ _ _ was mode read.1) at read.2
