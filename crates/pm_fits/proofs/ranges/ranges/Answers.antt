use Rattle.std.proofs.Common.{◌≡◌, suc, ◌-◌, refl, subst, sym, arith}
use Rattle.pm_fits.proofs.RangeLaws.{AreJoined, joined_start, joined_step}
use Rattle.pm_fits.proofs.ranges.ranges.Goals as goal

pub loop-k-init : goal.loop-k-init
loop-k-init c =
    let h = c.args.h.now in
    let numbers = c.args.numbers.now in
    let first = c.in_ok-ranges.ranges.items in
    subst (AreJoined h numbers first) (sym c.records-k.ensures.value)
    (joined_start h c.invariant.ensures numbers first c.in_ok-ranges.ensures)

pub loop-k-preserved : goal.loop-k-preserved
loop-k-preserved c =
    let h = c.args.h.now in
    let numbers = c.args.numbers.now in
    let old = c.loop-k.ranges.items in
    let k = c.loop-k.k - 1 in
    let at : c.loop-k.k ≡ suc k = omega (arith, c.loop-k-test.true) in
    let was = subst (AreJoined h numbers old) at c.loop-k.invariant in
    subst (λ t. AreJoined h numbers t k) (sym c.join_children.ensures)
    (joined_step h c.invariant.ensures numbers old k _
    (omega (arith, c.loop-k.auto.k, c.records-k.ensures.value)) was refl)
