use Rattle.std.proofs.Common.{arith}
use Rattle.icysixel.proofs.stream.feed_band.Goals as goal
use goal.{then-code, else-code, else-goes_on-via-else-goes_on}
use goal.{else-goes_on-via-then-goes_on+else-before-rows_so_far}

pub returns-then-before-rows_so_far-clause-fed : goal.returns-then-before-rows_so_far-clause-fed
returns-then-before-rows_so_far-clause-fed c =
    record {
      fed = c.feed-code.new.fed;
      is_fed = rw c.band_len.ensures.band at c.feed-code.ensures.fed;
      reported = λ ok. elim c.if-code.branch [
        | then-code w ↦ grind arith
        | else-code w ↦ grind arith
      ];
      failed = λ wrong. elim c.if-code.branch [
        | then-code w ↦ grind arith
        | else-code w ↦ grind arith
      ];
    }

pub returns-else-goes_on-clause-fed : goal.returns-else-goes_on-clause-fed
returns-else-goes_on-clause-fed c =
    record {
      fed = c.feed-code.new.fed;
      is_fed = rw c.band_len.ensures.band at c.feed-code.ensures.fed;
      reported = λ ok. elim c.if-code.branch [
        | then-code w ↦ elim c.else-goes_on.branch [
          | else-goes_on-via-then-goes_on+else-before-rows_so_far v ↦ grind arith
          | else-goes_on-via-else-goes_on v ↦ grind arith
        ]
        | else-code w ↦ grind arith
      ];
      failed = λ wrong. grind arith;
    }
