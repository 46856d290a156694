use Rattle.std.proofs.Common.{inl, inr, refl}
use Rattle.pm_shrink.proofs.BesideLaws.{turns_found}
use Rattle.pm_shrink.proofs.ObstacleLaws.{turns_here}
use Rattle.pm_shrink.proofs.shrink.Shrink.turned_near.Goals as goal

pub returns-in-Some : goal.returns-in-Some
returns-in-Some c =
    let found = c.in-Some.ensures {u = tt} in
    turns_here c.args.self.now.surface c.args.a c.args.b c.args.a c.args.b c.args.place
    (inl (refl, refl)) c.in-Some.corner.0 found

pub returns : goal.returns
returns c = turns_found c.args.self.now.surface c.args.a c.args.b c.args.b c.args.a c.args.place
    (inr (refl, refl)) c.turned_near_at-2.result c.turned_near_at-2.ensures
