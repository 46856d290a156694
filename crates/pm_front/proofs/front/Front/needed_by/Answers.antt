use Rattle.std.proofs.Common.{◌<◌, sym, subst, ap, arith}
use Rattle.pm_forest.specs.Forest.{record_count}
use Rattle.pm_front.specs.State.{State}
use Rattle.pm_front.proofs.ReadyLaws.{row_needed}
use Rattle.pm_front.proofs.front.Front.needed_by.Goals as goal

pub of-requires : goal.of-requires
of-requires c =
    let l = subst (λ (s : State). c.args.k < record_count s.h) (sym c.self.view_is) c.requires in
    omega (arith, l, c.self.invariant.needed.len)

pub returns : goal.returns
returns c =
    let l = subst (λ (s : State). c.args.k < record_count s.h) (sym c.self.view_is) c.requires in
    let same = ap (λ (s : State). s.h) (sym c.self.view_is) in
    row_needed _ _ c.self.inside.needed c.self.invariant.needed same c.args.k l _ c.of.ensures
