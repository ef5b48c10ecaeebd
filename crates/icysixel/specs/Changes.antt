-- What a call reads or changes behind a handle. An empty handle stays empty.
use Rattle.std.specs.Prelude.{◌≡◌, ◌≢◌, ℕ, Option, None, Some, is_some, true}
use Rattle.sixel_base.specs.declared.state.DecoderState.{DecoderState}
use Rattle.icy_sixel.specs.Receiver.{Receiver, Reception}
use Rattle.icysixel.specs.declared.state.State.{State}

-- neither the stored image changes, nor where images end
abbrev pub AreKept : State → State → Type 0
AreKept before after = (after.image ≡ before.image) × (after.height ≡ before.height)

-- It returns this number of a state, or 0 for an empty handle, and changes nothing.
pub record Reads (number : State → ℕ) (before after : Option State) (result : ℕ) : Type 0 where
  pub same : after ≡ before
  pub none : before ≡ None → result ≡ 0
  pub value : (state : State) → before ≡ Some state → result ≡ number state

-- It writes what a state has, or returns the code of an empty handle, and changes nothing.
pub record Writes {X : Type 0} (Has : State → X → Type 0) (before after : Option State)
    (old new : X) (code : ℕ) : Type 0 where
  pub same : after ≡ before
  pub none : before ≡ None → code ≡ 1
  pub done : is_some before ≡ true → code ≡ 0
  pub value : (state : State) → before ≡ Some state → Has state new
  pub told : code ≢ 0 → new ≡ old

-- what it does to a state
abbrev pub Acts : (State → State → Type 0) → Option State → Option State → Type 0
Acts Does before after =
    (is_some after ≡ is_some before)
    × ((old new : State) → before ≡ Some old → after ≡ Some new → Does old new)

-- it changes the receiver in this way, and nothing else
abbrev pub IsReceiverSet : (Receiver → Receiver) → Option State → Option State → Type 0
IsReceiverSet change = Acts (λ old new.
    (new.receiver ≡ change old.receiver) × AreKept old new)

-- it changes the decoder in this way, and nothing else
abbrev pub IsSet : (DecoderState → DecoderState) → Option State → Option State → Type 0
IsSet change = IsReceiverSet (λ receiver. record receiver { decoder = change receiver.decoder })

-- it replaces the open image by this one, and changes nothing else
abbrev pub IsOpened : (Receiver → Reception) → Option State → Option State → Type 0
IsOpened image = IsReceiverSet (λ receiver. record receiver { image = image receiver })
