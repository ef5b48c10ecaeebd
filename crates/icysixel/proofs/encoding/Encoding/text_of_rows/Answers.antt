use Rattle.std.proofs.Common.{◌≡◌, false, arith, not}
use Rattle.std.proofs.{lemmas.Bool.false≢true, lemmas.Bool.Decides.nat_tests}
use Rattle.icysixel.specs.{Encodings.{format_of, rows_fault}, Formats.{is_rgba, pixel_len}}
use Rattle.icysixel.proofs.{Calls.failed_copied, SourceRows.rgba_same}
use Rattle.icysixel.proofs.encoding.Encoding.text_of_rows.Goals as goal

pub text_of_image-requires-clause-count : goal.text_of_image-requires-clause-count
text_of_image-requires-clause-count c =
    let encoding = c.args.self.now in
    let four : pixel_len (format_of encoding) ≡ 4 = grind (arith, nat_tests) in
    let rows = rw four at c.requires.rows in
    omega (arith, rows)

pub text_of_image-requires-clause-pixels : goal.text_of_image-requires-clause-pixels
text_of_image-requires-clause-pixels c =
    grind (arith, nat_tests, rgba_same, text_of_image-requires-clause-count)

pub returns-in-Ok-clause-colors : goal.returns-in-Ok-clause-colors
returns-in-Ok-clause-colors c =
    failed_copied _ false (not (is_rgba (format_of c.args.self.now)))
    (rows_fault c.args.self.now c.args.rows.now) c.text_of_image-in-Ok.result
    (λ no. absurd (false≢true no)) c.text_of_image-in-Ok.ensures.colors
