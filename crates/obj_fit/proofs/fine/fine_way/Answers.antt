use Rattle.std.proofs.Common.{ℕ, ◌*◌, ◌∙◌, ap}
use Rattle.obj_prepare.specs.Numbers.{nearest}
use Rattle.obj_fit.proofs.FineLaws.{finer_product}
use Rattle.obj_fit.proofs.fine.fine_way.Goals as goal

pub returns-clause-value : goal.returns-clause-value
returns-clause-value c =
    c.fine_nearest.ensures.value
    ∙ ap (λ (n : ℕ). nearest (4096 * n) c.args.extent) c.stretched.ensures.value
    ∙ finer_product c.args.size c.args.way c.args.extent
