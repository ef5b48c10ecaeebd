use Rattle.std.proofs.Common.{arith}
use Rattle.icysixel.proofs.Witnesses.{length-entries, length-witnesses}
use Rattle.icysixel.proofs.choose_palette.icysixel_choose_palette.Goals as goal

pub write_choice-requires : goal.write_choice-requires
write_choice-requires c =
    let few = length-entries c.args.pixels.now c.args.max_colors _ c.in-Ok.ensures.palette in
    let witnesses =
    length-witnesses c.args.pixels.now c.args.max_colors _ _ c.in-Ok.ensures.palette
    c.in-Ok.ensures.witnesses in
    let done = c.if-code.false in
    record {
      colors = omega (arith, few, c.buffers_code-code.ensures.colors done);
      witnesses = omega (arith, witnesses, c.if-witnesses-most.false);
      indices =
          omega (arith, c.in-Ok.ensures.indices.one_each, c.buffers_code-code.ensures.indices done);
    }

pub returns-in-Ok-clause-palette : goal.returns-in-Ok-clause-palette
returns-in-Ok-clause-palette c = λ _. rw c.write_choice.ensures.colors c.in-Ok.ensures.palette

pub returns-in-Ok-clause-occur : goal.returns-in-Ok-clause-occur
returns-in-Ok-clause-occur c = λ _. rw c.write_choice.ensures.colors c.in-Ok.ensures.occur

pub returns-in-Ok-clause-complete : goal.returns-in-Ok-clause-complete
returns-in-Ok-clause-complete c = λ n color _ size room shown.
    rw c.write_choice.ensures.colors (c.in-Ok.ensures.complete n size room color shown)

pub returns-in-Ok-clause-witnesses_occur : goal.returns-in-Ok-clause-witnesses_occur
returns-in-Ok-clause-witnesses_occur c = λ _.
    rw c.write_choice.ensures.witnesses c.in-Ok.ensures.witnesses_occur

pub returns-in-Ok-clause-bound : goal.returns-in-Ok-clause-bound
returns-in-Ok-clause-bound c = λ color _ shown.
    rw (c.write_choice.ensures.color_count, c.write_choice.ensures.error)
    (c.in-Ok.ensures.bound color shown)

pub returns-in-Ok-clause-colors_after : goal.returns-in-Ok-clause-colors_after
returns-in-Ok-clause-colors_after c = λ _. c.write_choice.ensures.colors_after

pub returns-in-Ok-clause-witnesses_after : goal.returns-in-Ok-clause-witnesses_after
returns-in-Ok-clause-witnesses_after c = λ _. c.write_choice.ensures.witnesses_after
