use Rattle.std.proofs.{Common.{◌∷◌, [], Bool, Ok, refl, arith}, lemmas.Bool.Decides.nat_tests}
use Rattle.std.specs.{Bool.then_some, Option.option_map, Prelude.{IfSome, IsTrue}}
use Rattle.sixel_decoder.specs.declared.received.Received.{Received}
use Rattle.icy_sixel.specs.{ReceiverCalls.IsFed, inside.Receiving.{fault_of, receiver_of}}
use Rattle.icy_sixel.proofs.{Chunks.fed_counted, StoredErrors.fed_ok}
use Rattle.icy_sixel.proofs.receiver.SixelReceiver.try_byte.Goals.{in-Payload, in-ControlString}
use Rattle.icy_sixel.proofs.receiver.SixelReceiver.try_byte.Goals as goal

-- the byte was read
fed : (c : goal.After-then_some) → IsTrue c.match-self.is_read.0
    → IsFed c.args.self.now (receiver_of c.match-self.self-inside) (c.args.byte ∷ [])
    (Ok (record { consumed = 1; status = c.match-self.is_read.1 }))
fed c = elim c.match-self.branch [
  | in-Payload w ↦ rw (← c.self.view_is, w.in-Payload.is, w.self-inside-is, w.is_read-is) (λ is.
      let now = fed_ok _ _ (option_map fault_of c.self.inside.failure) (c.args.byte ∷ []) _
      (w.try_byte.ensures.fed is).fed in
      record {
        decoder = refl;
        settings = (refl, refl, refl);
        fed = now;
        failure = refl;
        counted = fed_counted _ _ (c.args.byte ∷ []) _ now;
      })
  | in-ControlString w ↦
      rw (← c.self.view_is, w.in-ControlString.is, w.self-inside-is, w.is_read-is) (λ is.
      let now = fed_ok _ _ (option_map fault_of c.self.inside.failure) (c.args.byte ∷ []) _
      (w.try_byte-in-ControlString.ensures.fed is) in
      record {
        decoder = refl;
        settings = (refl, refl, refl);
        fed = now;
        failure = refl;
        counted = fed_counted _ _ (c.args.byte ∷ []) _ now;
      })
]

of_test : (test : Bool) (received : Received) (P : Received → Type 0)
    → (IsTrue test → P received) → IfSome (then_some test received) P
of_test test received P is = grind (arith, nat_tests)

pub returns-clause-fed : goal.returns-clause-fed
returns-clause-fed c = rw c.then_some.ensures (of_test _ _ _ (fed c))
