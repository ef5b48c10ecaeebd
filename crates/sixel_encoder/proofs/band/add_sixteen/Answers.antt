use Rattle.std.proofs.{Common.{◌+◌, ◌<◌, length, arith}, lemmas.Bool.Decides.nat_tests}
use Rattle.sixel_encoder.proofs.{band_rows.Cells.place_inside, band_rows.Lines.between-none}
use Rattle.sixel_encoder.proofs.band_rows.Lines.{cell-run, AreMarks-run}
use Rattle.sixel_encoder.proofs.band.add_sixteen.Goals as goal

pub load-rows : goal.load-rows
load-rows c =
    let pixel = c.args.line.start + c.args.column in
    let known = c.requires.image.opaque pixel (omega arith)
    (c.are_opaque.ensures c.if-are_opaque.true pixel (omega arith) (omega arith)) in
    let place = place_inside c.args.rows.now c.args.used.now c.args.image.now.width
    c.from-row.result (c.args.column + 15) c.requires.rows (omega (arith, known)) (omega arith) in
    omega (arith, place)

pub store-rows : goal.store-rows
store-rows c = load-rows c

pub returns-then-are_opaque : goal.returns-then-are_opaque
returns-then-are_opaque c =
    let pixel = c.args.line.start + c.args.column in
    let row = c.from-row.result in
    let width = c.args.image.now.width in
    let known = c.requires.image.opaque pixel (omega arith)
    (c.are_opaque.ensures c.if-are_opaque.true pixel (omega arith) (omega arith)) in
    let one : row < length c.args.used.now = omega (arith, known) in
    let run = cell-run c.args.rows.now width row c.args.column c.args.line.weight (load-rows c)
    c.requires.columns (λ x. c.requires.fits row x one) in
    record {
      cells = λ e x le lx.
          let same = c.equal_from.ensures.run.same (c.args.line.start + x) in
          let opaque = c.are_opaque.ensures c.if-are_opaque.true (c.args.line.start + x) in
          let sixel = run e x lx in
          grind (arith, nat_tests, c.from-row.ensures);
      marks = AreMarks-run _ _ _ _ _ _ _ c.requires.marks run one c.requires.columns
          c.requires.weight;
    }

pub loop-one-init : goal.loop-one-init
loop-one-init c = grind (arith, nat_tests, between-none, c.requires.marks)
