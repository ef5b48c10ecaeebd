-- The data of a SIXEL text as marks, and which marks draw a drawing. A mark selects a register,
-- draws a row of sixels from the pen on, returns to the left or goes down a band, as in DEC's sixel
-- data. A text may have any marks that leave each pixel in its own color and set no transparent
-- pixel.
use Rattle.std.specs.Prelude.{◌≡◌, ℕ, ◌+◌, ◌-◌, ◌*◌, ◌<◌, ◌≤◌, ◌==◌, nat_le, Bool, true, ◌&&◌}
use Rattle.std.specs.Prelude.{if◌then◌else◌, List, [], ◌∷◌, ◌++◌, length, flat_map, slice_index}
use Rattle.std.specs.Prelude.{slice_index_or, Option, Some, None, is_some, All, codes, decimal}
use Rattle.sixel_base.specs.Picture.{is_struck}
use Rattle.sixel_encoder.specs.{RunTokens.{written, row_tokens}, Text.{Drawing, entry_at, bands}}
use Rattle.sixel_encoder.specs.{Text.{color_definition, parameters_text, raster_text}, Trip.is_used}

-- a color introducer of one register, a row of sixels by their bits, a graphics carriage return,
-- a graphics new line
pub data Mark : Type 0 where
  Pick : ℕ → Mark
  Draw : List ℕ → Mark
  Back : Mark
  Next : Mark

-- the bytes of a mark: a row takes the fewest
abbrev pub mark_text : Mark → List ℕ
mark_text (Pick register) = codes "#" ++ decimal register
mark_text (Draw row) = written (row_tokens row)
mark_text Back = codes "$"
mark_text Next = codes "-"

-- the bytes of all marks
abbrev pub marks_text : List Mark → List ℕ
marks_text marks = flat_map mark_text marks

-- where the next mark draws, and in which register, once one is selected
pub record Pen : Type 0 where
  pub column : ℕ
  pub band : ℕ
  pub register : Option ℕ

-- the pen before the first mark
abbrev pub first_pen : Pen
first_pen = record { column = 0; band = 0; register = None }

-- the pen after a mark
abbrev pub moved : Pen → Mark → Pen
moved pen (Pick register) = record {
  column = pen.column;
  band = pen.band;
  register = Some register;
}
moved pen (Draw row) = record {
  column = pen.column + length row;
  band = pen.band;
  register = pen.register;
}
moved pen Back = record { column = 0; band = pen.band; register = pen.register }
moved pen Next = record { column = 0; band = pen.band + 1; register = pen.register }

-- the pen after all marks
abbrev pub moved_by : List Mark → Pen → Pen
moved_by [] pen = pen
moved_by (mark ∷ marks) pen = moved_by marks (moved pen mark)

-- whether a row of sixels that is drawn from a column on sets the pixel
abbrev pub is_lit : List ℕ → ℕ → ℕ → ℕ → ℕ → Bool
is_lit row from top column line =
    nat_le from column && is_struck top (slice_index row (column - from)) line

-- the register that a pixel is drawn in after a mark, given the one before it
abbrev pub covered : Pen → Mark → Option ℕ → ℕ → ℕ → Option ℕ
covered pen (Draw row) before column line =
    if is_lit row pen.column (6 * pen.band) column line then pen.register else before
covered pen (Pick register) before column line = before
covered pen Back before column line = before
covered pen Next before column line = before

-- the register that a pixel is drawn in after all marks: that of the last one that sets it
abbrev pub painted : List Mark → Pen → Option ℕ → ℕ → ℕ → Option ℕ
painted [] pen before column line = before
painted (mark ∷ marks) pen before column line =
    painted marks (moved pen mark) (covered pen mark before column line) column line

-- A row may be drawn if it has six bits per sixel, stays within the width, is in a band that is
-- used, and if a register is selected.
pub record IsRow (drawing : Drawing) (pen : Pen) (row : List ℕ) : Type 0 where
  pub small : All (λ bits. bits < 64) row
  pub inside : pen.column + length row ≤ drawing.width
  pub lower : pen.band < bands drawing.height
  pub used : is_used drawing pen.band ≡ true
  pub selected : is_some pen.register ≡ true

-- the mark is allowed here
abbrev pub IsAllowed : Drawing → Pen → Mark → Type 0
IsAllowed drawing pen (Pick register) = register < 256
IsAllowed drawing pen (Draw row) = IsRow drawing pen row
IsAllowed drawing pen Back = Unit {0}
IsAllowed drawing pen Next = pen.band < bands drawing.height

-- each mark is allowed after those before it
abbrev pub AreAllowed : Drawing → Pen → List Mark → Type 0
AreAllowed drawing pen [] = Unit {0}
AreAllowed drawing pen (mark ∷ marks) =
    IsAllowed drawing pen mark × AreAllowed drawing (moved pen mark) marks

-- a register that gets the color of an entry
pub record Definition : Type 0 where
  pub register : ℕ
  pub entry : ℕ

-- the bytes of a definition
abbrev pub register_definition : Drawing → Definition → List ℕ
register_definition drawing definition =
    color_definition definition.register (slice_index_or drawing.colors definition.entry [])

-- the bytes of all definitions
abbrev pub definitions_text : Drawing → List Definition → List ℕ
definitions_text drawing definitions = flat_map (register_definition drawing) definitions

-- the entry of a register after the definitions, given the one before them: the last counts
abbrev pub register_entry : List Definition → Option ℕ → ℕ → Option ℕ
register_entry [] before register = before
register_entry (definition ∷ definitions) before register =
    register_entry definitions
    (if definition.register == register then Some definition.entry else before) register

-- the register and the entry exist
abbrev pub IsDefinition : Drawing → Definition → Type 0
IsDefinition drawing definition =
    (definition.register < 256) × (definition.entry < length drawing.colors)

-- each of them is a definition
abbrev pub AreDefinitions : Drawing → List Definition → Type 0
AreDefinitions drawing [] = Unit {0}
AreDefinitions drawing (definition ∷ definitions) =
    IsDefinition drawing definition × AreDefinitions drawing definitions

-- a pixel drawn in this register, if in any, has the color of the entry
abbrev pub HasEntry : List Definition → Option ℕ → ℕ → Type 0
HasEntry definitions place entry =
    (register : ℕ) × (place ≡ Some register)
    × (register_entry definitions None register ≡ Some entry)

-- The definitions and marks draw the drawing: a pixel with an entry gets the entry's color, and one
-- with none is never set.
pub record Draws (drawing : Drawing) (definitions : List Definition) (marks : List Mark)
    : Type 0 where
  pub defined : AreDefinitions drawing definitions
  pub allowed : AreAllowed drawing first_pen marks
  pub transparent : (column line : ℕ) → column < drawing.width → entry_at drawing column line ≡ None
      → painted marks first_pen None column line ≡ None
  pub opaque : (column line entry : ℕ) → column < drawing.width → line < drawing.height
      → entry_at drawing column line ≡ Some entry
      → HasEntry definitions (painted marks first_pen None column line) entry

-- the data of their text: all of it between the parameters and the string terminator
abbrev pub marks_payload : Drawing → List Definition → List Mark → List ℕ
marks_payload drawing definitions marks =
    raster_text drawing ++ definitions_text drawing definitions ++ marks_text marks

-- the bytes are a text of definitions and marks that draw the drawing
abbrev pub IsDrawnText : Drawing → List ℕ → Type 0
IsDrawnText drawing text =
    (definitions : List Definition) × (marks : List Mark) × Draws drawing definitions marks
    ×
    (text ≡ parameters_text drawing ++ (marks_payload drawing definitions marks ++ 27 ∷ codes "\\"))
