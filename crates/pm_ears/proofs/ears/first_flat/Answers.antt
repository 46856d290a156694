use Rattle.std.proofs.Common.{◌<◌, ◌≤◌, ◌-◌, length, sym, ◌∙◌, arith}
use Rattle.pm_ears.specs.Ears.{is_flat}
use Rattle.pm_ears.proofs.Rows.{first_here, first_later, first_past}
use Rattle.pm_ears.proofs.ears.first_flat.Goals as goal

pub returns-then-is_flat : goal.returns-then-is_flat
returns-then-is_flat c =
    let l : c.loop-i.i < length c.args.left.now - 2 =
    omega (arith, c.loop-i-test.true, c.loop-i.auto.i-end, c.saturating_sub-i-end.ensures) in
    sym (first_here (is_flat c.args.left.now) c.loop-i.i (length c.args.left.now - 2) l
    (sym c.is_flat.ensures ∙ c.if-is_flat.true)) ∙ c.loop-i.invariant

pub loop-i-preserved : goal.loop-i-preserved
loop-i-preserved c =
    let l : c.loop-i.i < length c.args.left.now - 2 =
    omega (arith, c.loop-i-test.true, c.loop-i.auto.i-end, c.saturating_sub-i-end.ensures) in
    sym (first_later (is_flat c.args.left.now) c.loop-i.i (length c.args.left.now - 2) l
    (sym c.is_flat.ensures ∙ c.if-is_flat.false)) ∙ c.loop-i.invariant

pub returns : goal.returns
returns c =
    let l : length c.args.left.now - 2 ≤ c.loop-i.i =
    omega (arith, c.loop-i-test.false, c.saturating_sub-i-end.ensures) in
    sym (first_past (is_flat c.args.left.now) c.loop-i.i (length c.args.left.now - 2) l)
    ∙ c.loop-i.invariant
