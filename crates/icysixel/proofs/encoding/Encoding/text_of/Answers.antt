use Rattle.std.proofs.Common.{◌≡◌, ◌≢◌, ℕ, ◌≤◌, List, length, take, None, Some, not, arith, ◌∙◌}
use Rattle.std.proofs.{lemmas.Bool.Decides.nat_tests, lemmas.List.length-take-le}
use Rattle.std.specs.Prelude.{IfErr, IfOk, Result, String, string_bytes}
use Rattle.std.specs.declared.alloc.Global.{Global}
use Rattle.sixel_base.specs.Size.{encode_fault}
use Rattle.icysixel.specs.Encodings.{FailsByCode, IsEncoded, IsRowsText, bytes_of, copies}
use Rattle.icysixel.specs.Encodings.{dense_rows, format_of, row_len, row_stride, rows_fault}
use Rattle.icysixel.specs.{Formats.is_rgba, Rows.wanted, declared.encoding.Encoding.Encoding}
use Rattle.icysixel.proofs.Calls.{failed_copied, memory_copied}
use Rattle.icysixel.proofs.SourceRows.{dense_size, dense_taken}
use Rattle.icysixel.proofs.encoding.Encoding.text_of.Goals as goal

-- with enough pixels only the colors and memory can be wrong
encoded_rows : (encoding : Encoding) (pixels : List ℕ) (size : ℕ)
    (result : Result (String Global) ℕ) → encode_fault encoding.width encoding.height ≡ None
    → bytes_of encoding ≡ Some size → size ≤ length pixels
    → FailsByCode (copies encoding) (rows_fault encoding (dense_rows encoding pixels)) result
    → IfErr result (λ code. code ≢ 0)
    → IfOk result (λ text. IsRowsText encoding (dense_rows encoding pixels) (string_bytes text))
    → IsEncoded encoding pixels result
encoded_rows encoding pixels size result sound sized enough colors refused text =
    grind (arith, nat_tests)

pub text_of_rows-requires-clause-rows : goal.text_of_rows-requires-clause-rows
text_of_rows-requires-clause-rows c =
    let encoding = c.args.self.now in
    let sound : encode_fault encoding.width encoding.height ≡ None = grind (arith, nat_tests) in
    let some : 1 ≤ encoding.height = grind (arith, nat_tests) in
    let sized : wanted (row_len encoding) (row_len encoding) encoding.height ≡ Some c.in-Some.size =
    grind (arith, nat_tests) in
    let size = dense_size (row_len encoding) encoding.height c.in-Some.size some sized in
    length-take-le c.in-Some.size c.args.pixels.now c.if-size-pixels.false ∙ size

pub returns-in-Some-2 : goal.returns-in-Some-2
returns-in-Some-2 c =
    let encoding = c.args.self.now in
    let pixels = c.args.pixels.now in
    let wide = row_len encoding in
    let sound : encode_fault encoding.width encoding.height ≡ None = grind (arith, nat_tests) in
    let some : 1 ≤ encoding.height = grind (arith, nat_tests) in
    let flat : row_stride encoding ≡ row_len encoding = grind (arith, nat_tests) in
    let sized : bytes_of encoding ≡ Some c.in-Some.size = grind (arith, nat_tests) in
    let taken = dense_taken wide encoding.height c.in-Some.size pixels some (rw flat at sized) in
    let same : take c.in-Some.size pixels ≡ dense_rows encoding pixels = rw flat taken in
    encoded_rows encoding pixels c.in-Some.size _ sound sized c.if-size-pixels.false
    (failed_copied _ (not (is_rgba (format_of encoding))) (copies encoding) _ _
    (λ t. grind (arith, nat_tests)) (rw same at c.text_of_rows.ensures.colors))
    c.text_of_rows.ensures.refused (rw same at c.text_of_rows.ensures.text)

pub returns-in-Ok : goal.returns-in-Ok
returns-in-Ok c =
    let encoding = c.args.self.now in
    let pixels = c.args.pixels.now in
    let sound : encode_fault encoding.width encoding.height ≡ None = grind (arith, nat_tests) in
    let sized : bytes_of encoding ≡ Some c.in-Some.size = grind (arith, nat_tests) in
    let same : c.deref.result.now ≡ dense_rows encoding pixels =
    grind (arith, nat_tests, c.deref.ensures.value, c.in-Ok.ensures.rows) in
    let told = c.text_of_rows-in-Ok.ensures in
    encoded_rows encoding pixels c.in-Some.size _ sound sized c.if-size-pixels.false
    (failed_copied _ (not (is_rgba (format_of encoding))) (copies encoding) _ _
    (λ t. grind (arith, nat_tests)) (rw same at told.colors)) told.refused (rw same at told.text)

pub returns-in-Err-gathered : goal.returns-in-Err-gathered
returns-in-Err-gathered c =
    let encoding = c.args.self.now in
    let sound : encode_fault encoding.width encoding.height ≡ None = grind (arith, nat_tests) in
    let sized : bytes_of encoding ≡ Some c.in-Some.size = grind (arith, nat_tests) in
    encoded_rows encoding c.args.pixels.now c.in-Some.size _ sound sized (omega arith)
    (memory_copied _ (copies encoding)
    (rows_fault encoding (dense_rows encoding c.args.pixels.now)) (grind (arith, nat_tests)))
    (grind (arith, nat_tests)) (grind (arith, nat_tests))
