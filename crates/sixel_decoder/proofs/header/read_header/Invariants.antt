use Rattle.sixel_decoder.proofs.dcs_sequences.HeaderReads.{ReadsHeader}
use Rattle.sixel_decoder.proofs.header.read_header.Given as goal

abbrev pub invariant-header : goal.invariant-header
invariant-header l = ReadsHeader l.header.parameters l.index l.bytes
