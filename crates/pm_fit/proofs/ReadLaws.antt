-- Numbers of 128 bits that are known by others, as goals show them: as bits that are read back.
use Rattle.std.proofs.Common.{◌≡◌, ℕ, ◌<◌, ◌≤◌, ◌^◌, to_z, of_z, ◌∙◌}
use mir.Syntax.{w128}
use mir.Val.{hbits}
use Rattle.std.specs.Prelude.{ℤ, unsigned_abs}
use Rattle.pm_base.proofs.ReadBack.{read_is}

pub read_as : (m : ℕ) (z k : ℤ) → m < 2 ^ hbits w128 → unsigned_abs z ≤ m → z ≡ k
    → to_z w128 (of_z w128 z) ≡ k
read_as m z k far small is = read_is w128 z m small far ∙ is
