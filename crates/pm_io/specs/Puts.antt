-- What it is to put a text: all of it, or a part and a failure that is counted.
use Rattle.std.specs.Prelude.{◌≡◌, ◌⊎◌, ℕ, List, ◌++◌, Option, Result, OnOk, OnErr}
use Rattle.pm_io.specs.Bytes.{Gains, GainsPart, GainsThrough}
use Rattle.pm_io.specs.Causes.{Rose, HasCause}
use Rattle.pm_io.specs.declared.device.Sink as sink

-- The sink gained the text, or it failed, and gained a part of the text from its front and not the
-- whole.
pub record Puts {K T E : Type 0} (k : sink.Ghosts K) (before now : K) (text : List ℕ)
    (result : Result T E) : Type 0 where
  pub ok : OnOk result (Gains (k.got before) (k.got now) text)
  pub err : OnErr result (GainsPart (k.got before) (k.got now) text)
  pub cause : HasCause (k.faults before) (k.faults now) result

-- The same through a page, which held and holds these bytes: the sink gained what it held and the
-- text but for what it holds, in whole pages.
pub record PutsThrough {K T E : Type 0} (k : sink.Ghosts K) (before now : K)
    (held holds text : List ℕ) (result : Result T E) : Type 0 where
  pub ok : OnOk result (GainsThrough (k.got before) (k.got now) held holds text)
  pub err : OnErr result (GainsPart (k.got before) (k.got now) (held ++ text))
  pub cause : HasCause (k.faults before) (k.faults now) result

-- The text was put, or a part of it and a failure that is counted: what one can say who gets no
-- answer.
abbrev pub Said : Option (List ℕ) → Option (List ℕ) → ℕ → ℕ → List ℕ → Type 0
Said old new before now text = Gains old new text ⊎ (GainsPart old new text × Rose before now)

-- The device is as it was, by what it holds and by its count of failures.
abbrev pub Stayed : Option (List ℕ) → Option (List ℕ) → ℕ → ℕ → Type 0
Stayed old new before now = (new ≡ old) × (now ≡ before)
