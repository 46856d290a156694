use Rattle.std.proofs.Common.{sym, ◌∙◌}
use Rattle.obj_prepare.proofs.FittingLaws.{all_named}
use Rattle.obj_prepare.proofs.fitting.are_named.Goals as goal

-- src/fitting.rt:30:1
pub returns : goal.returns
returns c = λ is.
    all_named c.args.vertices c.args.faces.now c.deref.result.now
    (c.deref.ensures.value ∙ c.in_ok-named.ensures) (sym c.are_set.ensures ∙ is)
