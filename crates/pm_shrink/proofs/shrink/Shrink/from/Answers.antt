use Rattle.std.proofs.Common.{◌≡◌, true, None, slice_index_or, sym, ap, subst}
use Rattle.std.specs.Prelude.{is_some}
use Rattle.pm_base.specs.Sides.{face_of}
use Rattle.pm_runs.proofs.Live.{stands_face, corner_live}
use Rattle.pm_shrink.specs.Shrinking.{Shrinking}
use Rattle.pm_shrink.specs.Tables.{tables_of, surface_in}
use Rattle.pm_shrink.proofs.shrink.Shrink.from.Goals as goal

pub from-requires : goal.from-requires
from-requires c =
    subst (λ (s : Shrinking). is_some (slice_index_or s.surface.faces (face_of c.args.side.0) None)
    ≡ true) (sym c.self.view_is)
    (ap is_some (stands_face c.args.self.now.surface c.args.side.0 c.requires))

pub returns-clause-live : goal.returns-clause-live
returns-clause-live c =
    let stands = rw (← c.self.view_is) at c.requires in
    rw (← c.self.view_is, c.from.ensures)
    (corner_live (surface_in (tables_of c.self.inside.tables)) c.self.invariant.kept.surface
    c.args.side.0 stands)
