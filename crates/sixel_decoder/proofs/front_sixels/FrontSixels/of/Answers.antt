use Rattle.std.proofs.Common.{arith}
use Rattle.sixel_decoder.proofs.chunks.FrontBits.{front_blank, front_list, front_six}
use Rattle.sixel_decoder.proofs.chunks.Lanes.{front_sixels, mask_is}
use Rattle.sixel_decoder.proofs.front_sixels.FrontSixels.of.Goals as goal

pub returns-clause-sixels : goal.returns-clause-sixels
returns-clause-sixels c =
    front_sixels c.args.bytes.now _ c.requires (λ k. omega (arith, c.type_inv.bytes k))
    (mask_is c.args.bytes.now 0 c.requires) _ c.min-len.ensures

pub returns-clause-bits : goal.returns-clause-bits
returns-clause-bits c =
    front_list _ _ c.requires (omega (arith, c.min-len.ensures))
    (λ k. omega (arith, c.type_inv.bytes k)) (returns-clause-sixels c)

pub returns-clause-blank : goal.returns-clause-blank
returns-clause-blank c =
    front_blank _ _ c.requires (omega (arith, c.min-len.ensures))
    (λ k. omega (arith, c.type_inv.bytes k)) (returns-clause-sixels c)

pub returns-clause-six : goal.returns-clause-six
returns-clause-six c =
    front_six _ _ c.requires (omega (arith, c.min-len.ensures))
    (λ k. omega (arith, c.type_inv.bytes k)) (returns-clause-sixels c)
