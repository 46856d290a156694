use Rattle.pm_view.proofs.NumberLaws.{unsigned_small}
use Rattle.pm_view.proofs.fields.view_in.Goals as goal

pub within_range-requires-clause-focal : goal.within_range-requires-clause-focal
within_range-requires-clause-focal c =
    unsigned_small 65535 c.in_ok-focal-2.focal _ c.in_ok-focal-2.ensures

pub within_range-requires-clause-tol : goal.within_range-requires-clause-tol
within_range-requires-clause-tol c = unsigned_small 65535 c.in_ok-tol-2.tol _ c.in_ok-tol-2.ensures

pub read_sil-requires : goal.read_sil-requires
read_sil-requires c = unsigned_small 65535 c.in_ok-tol-2.tol _ c.in_ok-tol-2.ensures

pub within_range-requires-clause-sil : goal.within_range-requires-clause-sil
within_range-requires-clause-sil c = c.in_ok-sil.ensures.small

pub within_range-requires-clause-planes : goal.within_range-requires-clause-planes
within_range-requires-clause-planes c = c.in_ok-planes.ensures.in_range
