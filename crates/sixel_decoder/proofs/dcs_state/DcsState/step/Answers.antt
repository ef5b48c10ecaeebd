use Rattle.std.proofs.Common.{◌≡◌, ◌++◌, ◌∷◌, [], true, false, None, refl, sym, ◌∙◌, ap, subst}
use Rattle.sixel_base.specs.{Bytes.carrying, Dcs.Reading, Decoder.origin_of, Header.header_text}
use Rattle.sixel_base.specs.{Header.{is_header, settings_of}, inside.Parameters.Keeps}
use Rattle.sixel_base.proofs.ToleratedTokens.{fault-none}
use Rattle.sixel_decoder.specs.{PayloadCalls.begun, declared.dcs_state.DcsState.DcsState}
use Rattle.sixel_decoder.specs.inside.DcsState.{HasFollowed, IsInHeader, IsInPayload}
use Rattle.sixel_decoder.proofs.dcs_sequences.Headers.{header_goes_on, header_begins}
use Rattle.sixel_decoder.proofs.dcs_sequences.Headers.{header_refuses}
use Rattle.sixel_decoder.proofs.dcs_state.DcsState.step.Goals as goal

pub returns-in-Ok-None-clause-steps : goal.returns-in-Ok-None-clause-steps
returns-in-Ok-None-clause-steps g c = λ ended before head is.
    let decoder = c.args.decoder.now in
    let it : IsInHeader c.in-Header.header before × (ended ≡ None) =
    subst (λ (p : DcsState _). HasFollowed p decoder ended before) c.in-Header.is is in
    let stepped : (is_header c.args.byte ≡ true)
    × Keeps c.push.new.self.parameters (header_text it.0.rest ++ carrying (c.args.byte ∷ [])) =
    rw c.in-Ok-None.field-0-is at (c.in-Ok-None.ensures (header_text it.0.rest) it.0.keeps) in
    (refl, (header_goes_on c.in-Header.header _ before c.args.byte it.0 stepped.0 stepped.1, it.1))

pub returns-in-Ok-Some-clause-steps : goal.returns-in-Ok-Some-clause-steps
returns-in-Ok-Some-clause-steps g c = λ ended before head is.
    let decoder = c.args.decoder.now in
    let it : IsInHeader c.in-Header.header before × (ended ≡ None) =
    subst (λ (p : DcsState _). HasFollowed p decoder ended before) c.in-Header.is is in
    let stepped : (is_header c.args.byte ≡ false) × (c.args.byte ≡ 113)
    × (c.in-Ok-Some.settings ≡ settings_of (header_text it.0.rest)) =
    rw c.in-Ok-Some.field-0-is at (c.in-Ok-Some.ensures (header_text it.0.rest) it.0.keeps) in
    let fresh = begun (origin_of decoder c.in-Ok-Some.settings) in
    let into : IsInPayload fresh decoder ended (before ++ c.args.byte ∷ []) = record {
      reading =
          header_begins c.in-Header.header before c.args.byte it.0 stepped.0 stepped.1
          ∙ ap (λ s. Reading s []) (sym stepped.2);
      start = refl;
      accepted = refl;
      faultless = fault-none decoder.pixel_limit;
      ending = it.1;
    } in (refl, rw c.new-in-Ok-Some.ensures into)

pub returns-in-Err-clause-steps : goal.returns-in-Err-clause-steps
returns-in-Err-clause-steps g c = λ ended before head is.
    let decoder = c.args.decoder.now in
    let it : IsInHeader c.in-Header.header before × (ended ≡ None) =
    subst (λ (p : DcsState _). HasFollowed p decoder ended before) c.in-Header.is is in
    let stepped = c.in-Err.ensures (header_text it.0.rest) it.0.keeps in
    header_refuses c.in-Err.error c.in-Header.header before c.args.byte it.0 stepped.0 stepped.1
