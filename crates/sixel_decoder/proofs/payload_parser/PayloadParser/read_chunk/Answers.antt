use Rattle.std.proofs.Common.{◌≡◌, ◌-◌, ◌∷◌, ℕ, true, get_or, subst, sym, ◌∙◌, arith, rules}
use Rattle.std.specs.Prelude.{◌⊎◌}
use Rattle.std.proofs.lemmas.{Bool.Decides.nat_tests, Result.err_from_is_err_and}
use Rattle.sixel_base.specs.{Fault.Faults, History.Sixel, Lenient.fault}
use Rattle.sixel_decoder.specs.inside.Runs.{IsPrintable, IsSixelByte}
use Rattle.sixel_decoder.proofs.chunks.{OpenCommands.goes_on_numbered, ParserSteps.refused_close}
use Rattle.sixel_decoder.proofs.chunks.Places.{feeds_refused, feeds_refused_end}
use Rattle.sixel_decoder.proofs.chunks.Places.{feeds_refused_printable, feeds_terminated}
use Rattle.sixel_decoder.proofs.chunks.Places.{feeds_whole, first_ahead, reaches_ignored}
use Rattle.sixel_decoder.proofs.chunks.Places.{reaches_pushed, reaches_read, reads_before}
use Rattle.sixel_decoder.proofs.chunks.Places.{reads_whole, splits_at}
use Rattle.sixel_decoder.proofs.drawing.SixelRuns.{Stands-run, goes_on_byte, refused_sixel}
use Rattle.sixel_decoder.proofs.images.FoundPayloads.{tail_whole}
use Rattle.sixel_decoder.proofs.payload_parser.PayloadParser.read_chunk.Goals as goal

-- a byte that opens a command with a number is printable
numbered_printable : (byte : ℕ) → (byte ≡ 33) ⊎ (byte ≡ 35) → IsPrintable byte
numbered_printable byte h = grind (arith, nat_tests)

-- and so is a sixel
sixel_printable : (byte : ℕ) → IsSixelByte byte → IsPrintable byte
sixel_printable byte h = grind (arith, nat_tests)

-- ---- a sixel

pub draw_sixels-requires-clause-some : goal.draw_sixels-requires-clause-some
draw_sixels-requires-clause-some g c = grind (arith, tail_whole, splits_at, c.bytes-test.true)

pub draw_sixels-requires-clause-sixel : goal.draw_sixels-requires-clause-sixel
draw_sixels-requires-clause-sixel g c =
    rw (
      tail_whole c.bytes.index c.args.chunk.now,
      splits_at c.args.chunk.now c.bytes.index c.bytes-test.true,
    ) (search rules)

pub returns-in_err-close-clause-feeds : goal.returns-in_err-close-clause-feeds
returns-in_err-close-clause-feeds g c = λ o h reached.
    let byte = get_or c.args.chunk.now c.bytes.index 0 in
    let is : IsSixelByte byte = search rules in
    let r = c.bytes.invariant.0 o h reached in
    let p = err_from_is_err_and c.from_residual.result c.from_residual.ensures.1 in
    rw (p.1, p.2)
    (feeds_refused_printable _ o _ h _ _ c.bytes-test.true (sixel_printable byte is) r
    (refused_close _ o.pixel_limit r.now byte (goes_on_byte r.now byte is)
    (c.in_err-close.ensures.drawn o r.now r.stands)))

pub returns-in_err-drawn-clause-feeds : goal.returns-in_err-drawn-clause-feeds
returns-in_err-drawn-clause-feeds g c = λ o h reached.
    let byte = get_or c.args.chunk.now c.bytes.index 0 in
    let is : IsSixelByte byte = search rules in
    let r = c.bytes.invariant.0 o h reached in
    let e = c.in_err-drawn.field-0.0 in
    let refused =
    c.in_err-drawn.ensures.tolerates o r.now (c.in_ok-close.ensures.drawn o r.now r.stands) in
    let residual = c.from_residual-in_err-drawn in
    let p = err_from_is_err_and residual.result residual.ensures.1 in
    rw (p.1, p.2)
    (feeds_refused_printable _ o _ h _ _ c.bytes-test.true (sixel_printable byte is) r
    (refused_sixel e o.pixel_limit r.now byte is
    (subst (λ (b : ℕ). Faults e true (fault o.pixel_limit (Sixel (b - 63) ∷ r.now)))
    (first_ahead c.bytes.index c.args.chunk.now _ (tail_whole c.bytes.index c.args.chunk.now))
    refused)))

pub bytes-preserved-then-matches : goal.bytes-preserved-then-matches
bytes-preserved-then-matches g c =
    let is = c.in_ok-drawn.ensures in (
      λ o h reached.
          let r = c.bytes.invariant.0 o h reached in
          let shows = is.tolerates o r.now (c.in_ok-close.ensures.drawn o r.now r.stands) in
          reaches_read o _ _ h _ _ _ _ (tail_whole c.bytes.index c.args.chunk.now)
          (λ k lt. (omega (arith, is.sixels k lt), omega (arith, is.sixels k lt))) is.within r
          (Stands-run o _ r.now _ _ c.in_ok-close.ensures.ground is.some is.within is.sixels shows),
      is.released ∙ c.in_ok-close.ensures.released ∙ c.bytes.invariant.1,
    )

-- ---- a command with a number

pub open_numbered-read-requires-clause-some : goal.open_numbered-read-requires-clause-some
open_numbered-read-requires-clause-some g c =
    grind (arith, nat_tests, tail_whole, splits_at, c.bytes-test.true)

pub open_numbered-read-requires-clause-numbered : goal.open_numbered-read-requires-clause-numbered
open_numbered-read-requires-clause-numbered g c =
    rw (
      tail_whole c.bytes.index c.args.chunk.now,
      splits_at c.args.chunk.now c.bytes.index c.bytes-test.true,
    ) (c.is_numbered.ensures.bytes c.if-is_numbered.true)

pub returns-in_err-close-2-clause-feeds : goal.returns-in_err-close-2-clause-feeds
returns-in_err-close-2-clause-feeds g c = λ o h reached.
    let numbered = c.is_numbered.ensures.bytes c.if-is_numbered.true in
    let r = c.bytes.invariant.0 o h reached in
    let residual = c.from_residual-in_err-close-2 in
    let p = err_from_is_err_and residual.result residual.ensures.1 in
    rw (p.1, p.2)
    (feeds_refused_printable _ o _ h _ _ c.bytes-test.true (numbered_printable _ numbered) r
    (refused_close _ o.pixel_limit r.now _ (goes_on_numbered r.now _ numbered)
    (c.in_err-close-2.ensures.drawn o r.now r.stands)))

pub bytes-preserved-then-is_numbered : goal.bytes-preserved-then-is_numbered
bytes-preserved-then-is_numbered g c =
    let is = c.open_numbered-read.ensures in (
      λ o h reached.
          let r = c.bytes.invariant.0 o h reached in
          reaches_read o _ _ h _ _ _ _ (tail_whole c.bytes.index c.args.chunk.now) is.printable
          is.within r
          (is.stands o r.now (c.in_ok-close-2.ensures.drawn o r.now r.stands)),
      is.released ∙ c.in_ok-close-2.ensures.released ∙ c.bytes.invariant.1,
    )

-- ---- a terminator

pub returns-in_err-close-3-clause-feeds : goal.returns-in_err-close-3-clause-feeds
returns-in_err-close-3-clause-feeds g c = λ o h reached.
    let splits = splits_at c.args.chunk.now c.bytes.index c.bytes-test.true in
    let ends = sym c.is_terminator.ensures ∙ c.if-is_terminator.true in
    let read = reads_before o c.bytes.self h _ _ _ splits ends (c.bytes.invariant.0 o h reached) in
    let residual = c.from_residual-in_err-close-3 in
    let p = err_from_is_err_and residual.result residual.ensures.1 in
    rw (p.1, p.2)
    (feeds_refused_end _ o.pixel_limit h _ _ c.bytes-test.true read.0
    (c.in_err-close-3.ensures.drawn o _ read.1))

pub returns-then-is_terminator-clause-feeds : goal.returns-then-is_terminator-clause-feeds
returns-then-is_terminator-clause-feeds g c = λ o h reached.
    let splits = splits_at c.args.chunk.now c.bytes.index c.bytes-test.true in
    let ends = sym c.is_terminator.ensures ∙ c.if-is_terminator.true in
    let read = reads_before o c.bytes.self h _ _ _ splits ends (c.bytes.invariant.0 o h reached) in
    feeds_terminated o _ h _ _ c.bytes-test.true read.0 c.in_ok-close-3.ensures.ground
    (c.in_ok-close-3.ensures.drawn o _ read.1)

-- ---- any other byte, and the end of the chunk

pub returns-in_err-push-clause-feeds : goal.returns-in_err-push-clause-feeds
returns-in_err-push-clause-feeds g c = λ o h reached.
    let splits = splits_at c.args.chunk.now c.bytes.index c.bytes-test.true in
    let r = c.bytes.invariant.0 o h reached in
    let residual = c.from_residual-in_err-push in
    let p = err_from_is_err_and residual.result residual.ensures.1 in
    rw (p.1, p.2)
    (feeds_refused _ o _ h _ _ _ splits (sym c.is_terminator.ensures ∙ c.if-is_terminator.false)
    (sym c.is_ignored.ensures ∙ c.if-not-is_ignored.true) r
    (c.in_err-push.ensures.reads o r.now r.stands))

pub bytes-preserved : goal.bytes-preserved
bytes-preserved g c = (
  λ o h reached.
      let r = c.bytes.invariant.0 o h reached in
      let splits = splits_at c.args.chunk.now c.bytes.index c.bytes-test.true in
      let ends = sym c.is_terminator.ensures ∙ c.if-is_terminator.false in
      elim c.if-not-is_ignored.branch [
        | goal.then-not-is_ignored+in_ok-push w ↦
            reaches_pushed o _ _ h _ _ _ splits ends
            (sym c.is_ignored.ensures ∙ w.if-not-is_ignored.true) r
            (rw w.self-is (w.in_ok-push.ensures.reads o r.now r.stands))
        | goal.else-not-is_ignored w ↦
            rw w.self-is (reaches_ignored o _ h _ _ _ splits ends
            (sym c.is_ignored.ensures ∙ w.if-not-is_ignored.false) r)
      ],
  elim c.if-not-is_ignored.branch [
    | goal.then-not-is_ignored+in_ok-push w ↦
        rw w.self-is (w.in_ok-push.ensures.released ∙ c.bytes.invariant.1)
    | goal.else-not-is_ignored w ↦ rw w.self-is c.bytes.invariant.1
  ],
)

pub returns-clause-feeds : goal.returns-clause-feeds
returns-clause-feeds g c = λ o h reached.
    feeds_whole o _ h _ _ c.bytes-test.false
    (reads_whole o _ h _ _ c.bytes-test.false (c.bytes.invariant.0 o h reached))
