use Rattle.std.proofs.Common.{◌≡◌, true, None, slice_index_or, sym, ap, subst}
use Rattle.std.specs.Prelude.{is_some}
use Rattle.pm_base.specs.Sides.{face_of}
use Rattle.pm_runs.proofs.Live.{stands_face}
use Rattle.pm_shrink.specs.Shrinking.{Shrinking}
use Rattle.pm_shrink.proofs.shrink.Shrink.vertex_at.Goals as goal

pub from-requires : goal.from-requires
from-requires c =
    subst (λ (s : Shrinking). is_some
    (slice_index_or s.surface.faces (face_of c.args.corner.0) None) ≡ true) (sym c.self.view_is)
    (ap is_some (stands_face c.args.self.now.surface c.args.corner.0 c.requires))
