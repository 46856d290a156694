use Rattle.std.proofs.Common.{◌≡◌, ℕ, ◌<◌, None, length}
use Rattle.pm_fans.specs.Heads.{AreHeaded, HasHead}
use Rattle.pm_base.specs.Sides.{beside_side}
use Rattle.pm_fans.proofs.chains.chain_heads.Given as goal

abbrev pub invariant-loop-number : goal.invariant-loop-number
invariant-loop-number l = record {
  headed : AreHeaded l.glued l.heads;
  opened : (e : ℕ) → e < length l.glued → beside_side l.glued e ≡ None → HasHead l.heads e;
  earlier : (e : ℕ) → e < l.number → HasHead l.heads e;
}
