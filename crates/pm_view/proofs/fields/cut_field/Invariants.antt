use Rattle.std.proofs.Common.{◌≡◌, ℕ, ◌<◌, eqb, get_or, false}
use Rattle.pm_view.proofs.fields.cut_field.Given as goal

abbrev pub invariant-loop-i : goal.invariant-loop-i
invariant-loop-i l = (k : ℕ) → k < l.i → eqb (get_or l.text k 0) 32 ≡ false
