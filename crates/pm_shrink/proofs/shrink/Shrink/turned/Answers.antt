use Rattle.std.proofs.Common.{inl, refl}
use Rattle.pm_shrink.proofs.ObstacleLaws.{turns_here, turned_second}
use Rattle.pm_shrink.proofs.shrink.Shrink.turned.Goals as goal

pub returns-in-Some-turned_at : goal.returns-in-Some-turned_at
returns-in-Some-turned_at c =
    let found = c.in-Some-turned_at.ensures {u = tt} in
    turns_here c.args.self.now.surface c.args.a c.args.b c.args.a c.args.b c.args.place
    (inl (refl, refl)) c.in-Some-turned_at.corner.0 found

pub returns : goal.returns
returns c = turned_second c.args.self.now.surface c.args.a c.args.b c.args.place
    (c.in_default-turned_at.ensures {u = tt}) c.turned_at-2.result c.turned_at-2.ensures
