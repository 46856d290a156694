use Rattle.std.proofs.Common.{◌∙◌, sym}
use Rattle.std.proofs.lemmas.Bool.{false≢true}
use Rattle.pm_shrink.proofs.UprightLaws.{upright_from, upright_at_first, upright_at_second}
use Rattle.pm_shrink.proofs.shrink.Shrink.stay_upright.Goals as goal

pub returns-then-stay_upright_at : goal.returns-then-stay_upright_at
returns-then-stay_upright_at c = (
  λ t. upright_from c.args.self.now.surface c.args.a c.args.b c.args.place
      (c.stay_upright_at.ensures.0 c.if-stay_upright_at.true)
      (c.stay_upright_at-then-stay_upright_at.ensures.0 t),
  λ all. c.stay_upright_at-then-stay_upright_at.ensures.1
      (upright_at_second c.args.self.now.surface c.args.a c.args.b c.args.place all),
)

pub returns-else-stay_upright_at : goal.returns-else-stay_upright_at
returns-else-stay_upright_at c = (
  λ t. absurd (false≢true (sym c.if-stay_upright_at.false ∙ t)),
  λ all. c.stay_upright_at.ensures.1
      (upright_at_first c.args.self.now.surface c.args.a c.args.b c.args.place all),
)
