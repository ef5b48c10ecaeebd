-- The files before this one are drawn.
use Rattle.std.{proofs.Common.{◌≤◌, ℕ, List, take}, specs.Io.KnownBytes.Appends}
use Rattle.sixel.{specs.Files.AreFileOutputs, specs.WorkOutput.IsPictureOutput}
use Rattle.sixel.{specs.Words.words_of, specs.declared.picture.PictureWord.TheVariants.Draw}
use Rattle.sixel.proofs.draw.files.draw_files.Given as goal

abbrev pub invariant-files : goal.invariant-files
invariant-files g l =
    (front : List ℕ) × Appends (g.O.Write.contents l.fn.output) (g.O.Write.contents l.output) front
    × (l.status ≤ 1)
    × AreFileOutputs (g.H.Host.content l.host) (IsPictureOutput (Draw l.drawing.options) l.palette)
    (words_of (take l.name-index l.name-items)) front l.status
