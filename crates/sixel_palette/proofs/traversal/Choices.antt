-- From the listed codes and the entries chosen among them to the palette of the image and its
-- certificate.
use Rattle.std.proofs.Common.{◌≡◌, ℕ, ◌<◌, ◌≤◌, List, [], length, get_or, map, refl, ◌∙◌, ⊎_elim}
use Rattle.std.proofs.{Common.arith, lemmas.Bool.cases_lt, lemmas.List.{get_or-map, length-map}}
use Rattle.std.proofs.{lemmas.List.nil_from_length, lemmas.List.Kept.AllPairs-from_increasing}
use Rattle.std.proofs.{lemmas.List.Elements.{All-push, All-nil}, lemmas.Bool.Decides.nat_tests}
use Rattle.std.specs.{List.{All, Contains}, List.Sorted.IsStrictlyIncreasing}
use Rattle.sixel_palette.specs.Palette.{nearest, IsShown, HasSize, IsFarthest, IsFarthestFirst}
use Rattle.sixel_palette.specs.Palette.{AreMembers, IsError, AreWitnesses, no_entry}
use Rattle.sixel_palette.specs.PaletteBound.{AreApart, NoListIsBetter}
use Rattle.sixel_palette.specs.declared.palette.PaletteChoice.{PaletteChoice}
use Rattle.sixel_palette.specs.{inside.Chosen.IsChosen, inside.Codes.{color_of, IsListed}}
use Rattle.sixel_palette.proofs.colors.Colors.{IsColor, rank-color_of, distance-lt}
use Rattle.sixel_palette.proofs.{colors.Shown.IsColor-color_at, nearest_entries.Nearest.nearest-le}
use Rattle.sixel_palette.proofs.traversal.Order.{farthest_alike, order_alike, members_from_order}
use Rattle.sixel_palette.proofs.traversal.Order.{apart_from_order, bound_from_order}
use Rattle.sixel_palette.proofs.traversal.Size.{one_size, complete_from_size}

-- the colors of rising codes are the members of the set that they list
pub members_from_codes : (M : List ℕ → Type 0) (codes : List ℕ) → IsStrictlyIncreasing codes
    → ((c : List ℕ) → M c → IsListed codes c) → ((c : List ℕ) → IsListed codes c → M c)
    → AreMembers M (map color_of codes)
members_from_codes M codes up to from =
    let color = λ (k : ℕ) (d : List ℕ) (l : k < length codes).
    get_or-map color_of codes k 0 d l in
    let size = length-map codes color_of in
    record {
      all = λ k d l. rw (color k d (omega arith)) (from _ (k, omega arith, refl));
      complete = λ c m. let h = to c m in (h.0, omega (arith, h.1), color h.0 c h.1 ∙ h.2);
      ascending = λ i j d l m. grind (arith, nat_tests, rank-color_of, AllPairs-from_increasing);
    }

pub size_from_codes : (M : List ℕ → Type 0) (codes : List ℕ) → IsStrictlyIncreasing codes
    → ((c : List ℕ) → M c → IsListed codes c) → ((c : List ℕ) → IsListed codes c → M c)
    → HasSize M (length codes)
size_from_codes h codes up to from = grind (arith, nat_tests, members_from_codes, length-map)

-- the color of an opaque pixel has three channels
pub three_from_shown : (pixels c : List ℕ) → IsShown pixels c → length c ≡ 3
three_from_shown pixels c h = rw (← h.3) refl

-- the color of an opaque pixel has channels that are bytes
pub IsColor-shown : (pixels c : List ℕ) → ((k : ℕ) → get_or pixels k 0 < 256) → IsShown pixels c
    → IsColor c
IsColor-shown pixels c bytes h = rw (← h.3) (IsColor-color_at pixels h.0 bytes)

module _ (pixels : List ℕ) (room : ℕ) (choice : PaletteChoice)
    (h : IsChosen pixels room choice) where
  -- where a pixel is opaque there is a code
  some_from_shown : (c : List ℕ) → IsShown pixels c → 0 < length h.codes
  some_from_shown c m = let l = (h.are.shown c m).1 in omega arith

  -- the entries are farthest first over the colors of opaque pixels
  pub chosen_order : IsFarthestFirst (IsShown pixels) choice.colors.items
  chosen_order =
      order_alike (IsListed h.codes) (IsShown pixels) h.are.listed h.are.shown _ h.order

  -- the next color is the farthest of these
  chosen_farthest : 0 < length h.codes → IsFarthest (IsShown pixels) choice.colors.items h.far
  chosen_farthest l =
      farthest_alike (IsListed h.codes) (IsShown pixels) h.are.listed h.are.shown _ h.far
      (h.farthest l)

  -- there are as many of these colors as codes
  pub chosen_size : HasSize (IsShown pixels) (length h.codes)
  chosen_size = size_from_codes (IsShown pixels) h.codes h.are.ascending h.are.shown h.are.listed

  -- so it is the only size
  only_size : (n : ℕ) → HasSize (IsShown pixels) n → n ≡ length h.codes
  only_size n s = one_size (IsShown pixels) (three_from_shown pixels) n _ s chosen_size

  -- the error is the greatest distance to the nearest entry
  pub chosen_error : IsError (IsShown pixels) choice.colors.items choice.error
  chosen_error = record {
    bound = λ c m.
        let some = some_from_shown c m in
        rw (h.error_some some) ((chosen_farthest some).farthest c m);
    reached = grind (arith, nat_tests, h.far, h.error_some, h.error_none, cases_lt, h.codes);
  }

  -- the witnesses are the entries and the next color
  pub chosen_witnesses : AreWitnesses (IsShown pixels) choice.colors.items choice.witnesses.items
  chosen_witnesses = record {
    some = λ n s l.
        let e = only_size n s in
        (h.far, chosen_farthest (omega arith), h.witnesses_some (omega arith));
    none = λ n s l. let e = only_size n s in h.witnesses_none (omega arith);
  }

  -- they lie apart
  pub chosen_apart : AreApart choice.witnesses.items choice.error
  chosen_apart =
      ⊎_elim (λ l. rw (h.witnesses_some l, h.error_some (omega arith))
      (apart_from_order (IsShown pixels) _ h.far chosen_order
      (chosen_farthest (omega arith)).member))
      (λ l. rw (h.witnesses_none l) (grind arith))
      (cases_lt (length choice.colors.items) (length h.codes))

  -- they are colors of opaque pixels
  pub chosen_occur : All (IsShown pixels) choice.witnesses.items
  chosen_occur =
      ⊎_elim (λ l.
      rw (h.witnesses_some l) (All-push (IsShown pixels) choice.colors.items h.far
      (members_from_order (IsShown pixels) choice.colors.items chosen_order)
      (chosen_farthest (omega arith)).member))
      (λ l. rw (h.witnesses_none l) (All-nil (IsShown pixels)))
      (cases_lt (length choice.colors.items) (length h.codes))

  -- no list of as many colors is better than a fourth of the error
  pub chosen_bound : (c : List ℕ) → IsShown pixels c
      → NoListIsBetter (IsShown pixels) (length choice.colors.items) choice.error
  chosen_bound c m =
      let some = some_from_shown c m in
      rw (h.error_some some) (bound_from_order (IsShown pixels) choice.colors.items h.far
      chosen_order (chosen_farthest some).member)

  -- where there is room for all of these colors each is an entry
  pub chosen_complete : (n : ℕ) → HasSize (IsShown pixels) n → n ≤ room → (c : List ℕ)
      → IsShown pixels c → Contains choice.colors.items c
  chosen_complete n s l c m =
      let e = only_size n s in
      let size = h.size in
      complete_from_size (IsShown pixels) (three_from_shown pixels) choice.colors.items n
      chosen_order s (omega arith) c m

  -- each of these colors has a nearest entry
  pub chosen_near : ((k : ℕ) → get_or pixels k 0 < 256) → 0 < room → (c : List ℕ) → IsShown pixels c
      → nearest choice.colors.items c < no_entry
  chosen_near bytes r c m =
      let some = some_from_shown c m in
      let l : 0 < length choice.colors.items = omega (arith, h.size) in
      let first = members_from_order (IsShown pixels) choice.colors.items chosen_order 0 [] l in
      grind (arith, nat_tests, nearest-le choice.colors.items c 0 [], distance-lt, IsColor-shown)

  -- where no pixel is opaque there is no entry
  pub chosen_empty : ((c : List ℕ) → ¬ IsShown pixels c) → choice.colors.items ≡ []
  chosen_empty none =
      nil_from_length choice.colors.items
      (let c = color_of (get_or h.codes 0 0) in
      grind (arith, nat_tests, none c, h.are.listed c, h.size))
