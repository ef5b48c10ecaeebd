use Rattle.std.proofs.Common.{◌≡◌, ◌++◌, ◌∷◌, ◌+◌, [], take, arith, append-nil, refl, IfSome}
use Rattle.std.proofs.KnownBytes.{Appends-trans}
use Rattle.std.proofs.lemmas.{Bool.Decides.nat_tests, List.take_all}
use Rattle.sixel.specs.{Ending.Done, Words.words_of, WorkOutput.{IsPictureOutput, Writes}}
use Rattle.sixel.specs.declared.picture.PictureWord.TheVariants.{Draw}
use Rattle.sixel.proofs.FileOutputs.{adds_nothing, adds_part, adds_whole, file_more}
use Rattle.sixel.proofs.FirstWords.{one_more}
use Rattle.sixel.proofs.draw.files.draw_files.Goals as goal

pub files-init : goal.files-init
files-init g c = ([], grind (arith, append-nil), omega arith, (refl, refl))

pub files-preserved-in_default : goal.files-preserved-in_default
files-preserved-in_default g c =
    let (front, grown, few, are) = c.files.invariant in
    let items = c.args.drawing.now.files.now in
    let name = c.deref.result.now in
    let here : words_of (take (c.files.name-index + 1) items)
    ≡ words_of (take c.files.name-index items) ++ name ∷ [] =
    one_more items c.files.name-index c.name-item.result name c.files-test.true c.name-item.is
    c.deref.ensures in
    let content = g.H.Host.content c.args.host.now in
    let IsText = IsPictureOutput (Draw c.args.drawing.now.options) c.args.palette.now in (
      front ++ [],
      rw (append-nil front) grown,
      omega arith,
      rw here (file_more content IsText _ name front [] c.files.status 1 1 are
          (adds_nothing (content name) IsText) (omega (arith, few))),
    )

pub files-preserved : goal.files-preserved
files-preserved g c =
    let (front, grown, few, are) = c.files.invariant in
    let items = c.args.drawing.now.files.now in
    let name = c.deref.result.now in
    let here : words_of (take (c.files.name-index + 1) items)
    ≡ words_of (take c.files.name-index items) ++ name ∷ [] =
    one_more items c.files.name-index c.name-item.result name c.files-test.true c.name-item.is
    c.deref.ensures in
    let shown = g.H.Host.content c.args.host.now in
    let content = shown name in
    let bytes = c.deref-in-files.result.now in
    let same : IfSome content (λ all. bytes ≡ all) = grind (arith, nat_tests) in
    let old = g.O.Write.contents c.files.output in
    let new = g.O.Write.contents c.write_picture.new.output in
    let IsText = IsPictureOutput (Draw c.args.drawing.now.options) c.args.palette.now in
    elim c.match-write_picture.branch [
      | goal.in-Err+in_ok-report w ↦
          let (text, more, adds) =
          adds_part (Unit {0}) w.in-Err.fault content IsText bytes old new same
          (rw w.in-Err.is at c.write_picture.ensures) in (
            front ++ text,
            Appends-trans _ _ _ _ _ grown more,
            rw w.status-is (omega arith),
            rw (w.status-is, here) (file_more shown IsText _ name front text c.files.status 1 1 are
                adds (omega (arith, few))),
          )
      | goal.in_default-write_picture w ↦
          let whole : Writes (λ text. IsText bytes text Done) old new =
          rw w.in_default-write_picture.is at c.write_picture.ensures in
          let (text, more, adds) = adds_whole content IsText bytes old new same whole in (
            front ++ text,
            Appends-trans _ _ _ _ _ grown more,
            rw w.status-is few,
            rw (w.status-is, here) (file_more shown IsText _ name front text c.files.status 0
                c.files.status are adds (omega arith)),
          )
    ]

pub returns : goal.returns
returns g c = grind (arith, nat_tests, take_all, c.files.invariant, c.files.name-index)
