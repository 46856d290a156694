use Rattle.std.proofs.Common.{ℕ, ◌-◌, ◌++◌, length, ap, subst}
use Rattle.std.specs.List.{range_with_len}
use Rattle.pm_front.specs.Members.{Members, AreSameNumbers}
use Rattle.pm_front.proofs.ActiveLaws.{roots-active}
use Rattle.pm_front.proofs.RangeLaws.{first_ones}
use Rattle.pm_front.proofs.actives.base_active.Goals as goal

pub returns-clause-right : goal.returns-clause-right
returns-clause-right c =
    let xs = c.args.nodes.now.list in
    let new = c.put_in.new.members.list in
    let are = subst (λ (n : ℕ). AreSameNumbers new (range_with_len 0 (n - 0) ++ xs))
    c.roots.ensures.value c.put_in.ensures.list in
    roots-active c.args.h.now new
    (first_ones (length c.args.h.now.roots) xs new (ap (λ (m : Members). m.list) c.requires)
    are) c.put_in.ensures.list.once
