use Rattle.std.proofs.Common.{◌≡◌, ◌++◌, ◌∷◌, [], true, false, get_or, refl, rules, arith}
use Rattle.sixel_base.specs.{Bytes.carrying, Header.{is_header, settings_of}}
use Rattle.sixel_base.specs.inside.Parameters.{Keeps}
use Rattle.sixel_decoder.proofs.dcs_sequences.HeaderReads.{reads_on, begins_at, text_at, refused_at}
use Rattle.sixel_decoder.proofs.dcs_sequences.HeaderReads.{open_at}
use Rattle.std.proofs.lemmas.Bool.Decides.{nat_tests}
use Rattle.sixel_decoder.proofs.header.read_header.Goals as goal

pub header-init : goal.header-init
header-init c = record { read = []; keeps = c.new-header.ensures; ahead = refl; rest = refl }

pub header-preserved : goal.header-preserved
header-preserved c =
    let r = c.header.invariant in
    let byte = get_or c.args.bytes.now c.header.index 0 in
    let stepped : (is_header byte ≡ true)
    × Keeps c.push.new.self.parameters (r.read ++ carrying (byte ∷ [])) =
    rw c.in-Ok-None.field-0-is at (c.in-Ok-None.ensures r.read r.keeps) in
    reads_on _ _ _ _ c.header-test.true r stepped.0 stepped.1

-- the byte at which the header ends is a `q`, and these are its settings
ended : (c : goal.In-Ok-Some) → (is_header (get_or c.args.bytes.now c.header.index 0) ≡ false)
    × (get_or c.args.bytes.now c.header.index 0 ≡ 113)
    × (c.in-Ok-Some.settings ≡ settings_of c.header.invariant.read)
ended c = grind (arith, nat_tests)

pub returns-in-Ok-Some-clause-payload : goal.returns-in-Ok-Some-clause-payload
returns-in-Ok-Some-clause-payload c =
    begins_at _ _ _ c.header-test.true c.header.invariant (ended c).0 (ended c).1

pub returns-in-Ok-Some-clause-settings : goal.returns-in-Ok-Some-clause-settings
returns-in-Ok-Some-clause-settings c =
    let text = text_at _ _ _ c.header-test.true c.header.invariant (ended c).0 in
    rw ((ended c).2, text) refl

pub returns-in-Err-clause-error : goal.returns-in-Err-clause-error
returns-in-Err-clause-error c =
    let stepped = c.in-Err.ensures c.header.invariant.read c.header.invariant.keeps in
    refused_at _ _ _ _ c.header-test.true c.header.invariant stepped.0 stepped.1

pub returns-clause-error : goal.returns-clause-error
returns-clause-error c =
    rw (open_at _ _ _ c.header-test.false c.header.invariant) (search rules)
