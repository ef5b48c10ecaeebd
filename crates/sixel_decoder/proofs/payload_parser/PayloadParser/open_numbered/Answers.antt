use Rattle.sixel_decoder.proofs.chunks.OpenCommands.{Stands-color, Stands-repeat}
use Rattle.sixel_decoder.proofs.images.FoundPayloads.{tail_whole}
use Rattle.std.proofs.{Common.arith, lemmas.Bool.Decides.nat_tests}
use Rattle.sixel_decoder.proofs.payload_parser.PayloadParser.open_numbered.Goals as goal

pub returns-clause-stands : goal.returns-clause-stands
returns-clause-stands g c =
    let rest = tail_whole 1 c.args.bytes.now in
    grind (arith, nat_tests, Stands-repeat, Stands-color)
