use Rattle.std.proofs.Common.{ℕ, ◌-◌, ◌++◌, ap, subst, arith}
use Rattle.std.specs.List.{range_with_len}
use Rattle.pm_front.specs.Members.{Members, AreSameNumbers}
use Rattle.pm_front.proofs.BaseCorners.{bases-few, base-kept}
use Rattle.pm_front.proofs.kept.base_kept.Goals as goal

pub put_in-requires-clause-below : goal.put_in-requires-clause-below
put_in-requires-clause-below c =
    omega (
      arith,
      c.bases.ensures.value,
      bases-few c.args.h.now,
      ap (λ (m : Members). m.bound)
          c.requires,
    )

pub returns-clause-right : goal.returns-clause-right
returns-clause-right c =
    let xs = c.args.faces.now.list in
    let new = c.put_in.new.members.list in
    let are = subst (λ (n : ℕ). AreSameNumbers new (range_with_len 0 (n - 0) ++ xs))
    c.bases.ensures.value c.put_in.ensures.list in
    base-kept c.args.h.now xs new (ap (λ (m : Members). m.list) c.requires) are
