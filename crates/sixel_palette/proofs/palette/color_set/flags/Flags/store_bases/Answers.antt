use Rattle.std.proofs.Common.{◌≡◌, ◌+◌, ◌*◌, arith}
use Rattle.std.proofs.lemmas.{Bool.Decides.nat_tests, List.get_or_default, Nat.ones-le}
use Rattle.sixel_palette.proofs.bitmaps.{Pages.{closed-empty, word_read}, Ranks.bases_more}
use Rattle.sixel_palette.proofs.bitmaps.Ranks.{rank_empty, rank_of-le, rank_word}
use Rattle.sixel_palette.proofs.refinement.Sums.{sum_to-none}
use Rattle.sixel_palette.proofs.palette.color_set.flags.Flags.store_bases.Goals as goal

pub loop-page-init : goal.loop-page-init
loop-page-init c = grind (arith, nat_tests, sum_to-none)

pub overflow_add-count : goal.overflow_add-count
overflow_add-count c =
    omega (
      arith,
      c.loop-word.invariant.count,
      rank_of-le c.args.self.now (64 * (64 * c.loop-page.page + c.loop-word.word)),
      ones-le 64 c.index.result.now (omega arith),
    )

pub loop-word-preserved : goal.loop-word-preserved
loop-word-preserved c =
    let flags = c.args.self.now in
    let page = c.loop-page.page in
    let word = c.loop-word.word in
    let h = c.loop-word.invariant in
    let is =
    word_read _ page _ word _ c.requires.paged (omega arith) c.index-start.ensures (omega arith)
    c.index.ensures in
    let start =
    get_or_default flags.starts.items page 0 c.index-start.result.now
    (omega (arith, c.requires.paged.pages)) in
    let next : 64 * page + (word + 1) ≡ 64 * page + word + 1 = omega arith in
    rw next (record {
      count =
          omega (arith, h.count, rank_word flags (64 * page + word) _ is (omega arith));
      bases =
          bases_more flags _ page _ word _ c.requires.paged
          (omega (arith, start, c.index-start.ensures)) (omega (arith, c.if-start-ne0.true))
          (omega arith) h.count h.bases;
    })

pub loop-page-preserved : goal.loop-page-preserved
loop-page-preserved c =
    let flags = c.args.self.now in
    let page = c.loop-page.page in
    let next : 4096 * (page + 1) ≡ 64 * (64 * page + 64) = omega arith in
    let end : 64 * (page + 1) ≡ 64 * page + 64 = omega arith in
    elim c.if-start-ne0.branch [
      | goal.then-start-ne0+else-loop-word-test w ↦
          let all : w.loop-word.word ≡ 64 = omega arith in
          let made = rw all at w.loop-word.invariant in
          rw (w.bases-is, w.count-is, next, end)
          (record { count = made.count; bases = made.bases })
      | goal.else-start-ne0 w ↦
          let h = c.loop-page.invariant in
          let empty =
          closed-empty _ _ _ c.requires.paged (omega arith) c.index-start.ensures
          (omega (arith, w.if-start-ne0.false)) in
          let here : 4096 * page ≡ 64 * (64 * page) = omega arith in
          let before = rw here at h.count in
          rw (w.bases-is, w.count-is, next, end) (record {
            count = omega (arith, before, rank_empty flags (64 * page) 64 empty);
            bases = grind (arith, nat_tests, h.bases);
          })
    ]
