use Rattle.std.proofs.Common.{◌∙◌, sym, ap, length}
use Rattle.obj_prepare.proofs.NamedLaws.{length-named_in}
use Rattle.obj_prepare.proofs.different.rounded_count.Goals as goal

pub different_points-requires-clause-flags : goal.different_points-requires-clause-flags
different_points-requires-clause-flags c =
    ap length (c.deref.ensures.value ∙ c.in_ok-named.ensures)
    ∙ length-named_in c.args.faces.now (length c.args.points.now)

pub different_places-requires-clause-flags : goal.different_places-requires-clause-flags
different_places-requires-clause-flags c =
    ap length (c.deref-2.ensures.value ∙ c.in_ok-named.ensures)
    ∙ length-named_in c.args.faces.now (length c.args.points.now) ∙ sym c.requires.placed
