-- When a device may answer that it failed.
use Rattle.std.specs.Prelude.{◌≡◌, ℕ, ◌+◌, ◌-◌, ◌^◌, ◌≤◌, min, Result, OnOk, OnErr}

-- The count rose, or stands at the greatest value that a counter has.
abbrev pub Rose : ℕ → ℕ → Type 0
Rose before now = min (before + 1) (2 ^ 64 - 1) ≤ now

-- A failure is counted, and nothing else is. The count stays within its counter.
pub record HasCause {T E : Type 0} (before now : ℕ) (result : Result T E) : Type 0 where
  pub later : before ≤ now
  pub most : before ≤ 2 ^ 64 - 1 → now ≤ 2 ^ 64 - 1
  pub same : OnOk result (now ≡ before)
  pub failed : OnErr result (Rose before now)
