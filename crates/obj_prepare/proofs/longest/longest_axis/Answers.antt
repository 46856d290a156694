use Rattle.std.proofs.Common.{◌∙◌, ap, length}
use Rattle.obj_prepare.proofs.NamedLaws.{length-named_in}
use Rattle.obj_prepare.proofs.longest.longest_axis.Goals as goal

pub first_at-low-requires-clause-flags : goal.first_at-low-requires-clause-flags
first_at-low-requires-clause-flags c = ap length (c.deref.ensures.value ∙ c.in_ok-named.ensures)
    ∙ length-named_in c.args.faces.now (length c.args.points.now)

pub first_at-high-requires-clause-flags : goal.first_at-high-requires-clause-flags
first_at-high-requires-clause-flags c = ap length (c.deref-2.ensures.value
    ∙ c.in_ok-named.ensures) ∙ length-named_in c.args.faces.now (length c.args.points.now)
