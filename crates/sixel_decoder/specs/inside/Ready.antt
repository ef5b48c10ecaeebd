-- In which columns a painter draws the next sixel for sure. An invariant of this library's own: the
-- end of these columns is stored, so that for a single byte one comparison is enough.
use Rattle.std.specs.Prelude.{ℕ, ◌≡◌, ◌+◌, ◌<◌, ◌≤◌}
use Rattle.sixel_canvas.specs.declared.drawing.Canvas.{Ghosts}

-- The next sixel has one column. Left of this end it is inside the image and its clip, and the
-- canvas has memory for it.
pub record AreReady {C : Type 0} (members : Ghosts C) (canvas : C)
    (repeat clipped_width clipped_height end : ℕ) : Type 0 where
  pub single : repeat ≡ 1
  pub above_bottom : members.top canvas + 6 ≤ clipped_height
  pub inside : end ≤ clipped_width
  pub held : end ≤ members.held canvas

-- there are such columns, or none are known
abbrev pub IsReady : {C : Type 0} (members : Ghosts C) → C → ℕ → ℕ → ℕ → ℕ → Type 0
IsReady members canvas repeat clipped_width clipped_height end =
    0 < end → AreReady members canvas repeat clipped_width clipped_height end
