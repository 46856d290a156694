-- The outcome of `demo` is the same whatever the bytes are.
use Rattle.std.proofs.Common.{ℕ, List, Option, Some, None, IfSome, refl}
use Rattle.pm_demo.specs.Ending.{IsWritten, IsCut}
use Rattle.pm_commands.specs.declared.asked.Asked.TheVariants as asked
use Rattle.pm_commands.specs.Ran.{unread}
use Rattle.pm_commands.specs.Outcome.{Replied, CutShort}

pub demo_written : (n : ℕ) (left old new : Option (List ℕ)) → IsWritten n old new
    → IfSome left (λ bytes. Replied (asked.Demo n) bytes None old new)
demo_written n None old new is = tt
demo_written n (Some bytes) old new is = record {
  all = unread is.text;
  outcome = record { text = is.text; summary = is.summary; done = refl };
  fault_is = refl;
  gained = is.gained;
}

pub demo_cut : (n : ℕ) (left old new : Option (List ℕ)) → IsCut n old new
    → IfSome left (λ bytes. CutShort (asked.Demo n) bytes old new)
demo_cut n None old new is = tt
demo_cut n (Some bytes) old new is = record {
  all = unread is.text;
  outcome = record { text = is.text; summary = is.summary; done = refl };
  part = is.part;
}
