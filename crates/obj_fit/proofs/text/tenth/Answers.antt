use Rattle.std.proofs.Common.{◌<◌, sym, subst}
use Rattle.obj_fit.proofs.TextLaws.{power_some, tenth_is}
use Rattle.obj_fit.proofs.text.tenth.Goals as goal

pub returns-clause-some : goal.returns-clause-some
returns-clause-some c =
    subst (λ n. 0 < n) (sym (tenth_is c.args.power c.args.unit c.requires.unit))
    (power_some c.args.power)
