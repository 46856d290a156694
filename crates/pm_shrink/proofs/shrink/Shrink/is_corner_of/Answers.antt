use Rattle.std.proofs.Common.{◌≡◌, ◌∙◌, ℕ, Option, subst}
use Rattle.std.specs.Prelude.{IfSome}
use Rattle.std.proofs.lemmas.Bool.{eqb-true}
use Rattle.pm_base.specs.Sides.{Net, Stands}
use Rattle.pm_shrink.specs.Shrinking.{net_at}
use Rattle.pm_shrink.proofs.shrink.Shrink.is_corner_of.Goals as goal

pub returns-in-Some : goal.returns-in-Some
returns-in-Some c =
    let m : Net = net_at c.args.self.now in
    let e : ℕ = c.args.corner.0 in
    let at = subst (λ (o : Option ℕ). IfSome o (λ v. Stands m e × (m.from e ≡ v))) c.in-Some.is
    c.vertex_of.ensures in
    λ t. (at.0, at.1 ∙ eqb-true c.in-Some.w c.args.v t)
