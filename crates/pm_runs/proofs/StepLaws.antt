-- The laws of one collapse, from the lemmas.
use Rattle.pm_runs.specs.Surfaces.{net_of_surface, collapsed}
use Rattle.std.proofs.lemmas.Grind.{common_steps}
use Rattle.pm_runs.specs.Laws.{MeshesAreSurfaces, CollapsesAreMerges, SidesAreFound}
use Rattle.pm_runs.specs.Laws.{ThirdsAreCommon, PairsHaveNoOrder, LinkableIsLegal}
use Rattle.pm_runs.specs.Laws.{StepsKeepSurfaces, StepsMoveNothingElse, LegalityIsLocal}
use Rattle.pm_runs.specs.Laws.{StepsAreLocal, NeighboursAreKept, OtherSidesStay, FacesAreCounted}
use Rattle.pm_runs.specs.Laws.{LegalStepsKeepManifolds}
use Rattle.std.proofs.Common.{ap, arith}
use Rattle.pm_base.specs.Counts.{one_if}
use Rattle.pm_base.specs.Sides.{face_of}
use Rattle.pm_runs.specs.Steps.{side_from_to}
use Rattle.pm_runs.proofs.Present.{is_some-map}
use Rattle.pm_runs.proofs.FacesLeft.{faces-left}
use Rattle.pm_runs.proofs.Collapsed.{collapse-alike}
use Rattle.pm_runs.proofs.Legal.{third-common, legal-turned, legal-linkable, linkable-legal}
use Rattle.pm_runs.proofs.Live.{input-sound, collapse-sound, new_live, new_at, old_live, old_at}
use Rattle.pm_runs.proofs.Proper.{input-proper, collapse-proper, legal-apart}
use Rattle.pm_runs.proofs.Found.{found-runs, runs-found, none-side, side-none}
use Rattle.pm_runs.proofs.Relinked.{drops-faces, relinks-twins}
use Rattle.pm_runs.proofs.Local.{looks-sym, legal-same, far-same}
use Rattle.pm_runs.proofs.Manifolds.{collapse-manifold}
use Rattle.pm_runs.proofs.Neighbours.{runs-stay, runs-were, twin-same, neighbours-kept}
use Rattle.pm_runs.proofs.Neighbours.{neighbours-were}

pub meshes_are_surfaces : MeshesAreSurfaces
meshes_are_surfaces m formed manifold = (input-sound m formed, input-proper m manifold)

pub collapses_are_merges : CollapsesAreMerges
collapses_are_merges s a b place = collapse-alike s a b place

pub sides_are_found : SidesAreFound
sides_are_found m once p q =
    ((λ e. (found-runs m p q e, runs-found m p q once e)), (none-side m p q, side-none m p q))

pub thirds_are_common : ThirdsAreCommon
thirds_are_common m a b w = third-common m a b w

pub pairs_have_no_order : PairsHaveNoOrder
pairs_have_no_order s a b place = (legal-turned s a b place, legal-turned s b a place)

pub linkable_is_legal : LinkableIsLegal
linkable_is_legal s once a b place =
    grind (arith, common_steps, legal-linkable s a b place, linkable-legal s once a b place)

pub steps_keep_surfaces : StepsKeepSurfaces
steps_keep_surfaces s sound proper a b place ok =
    let keeps = legal-apart s a b place ok in
    record {
      sound = collapse-sound s sound a b place;
      proper = collapse-proper s sound proper a b place keeps;
      faces = drops-faces s sound a b place;
      twins = relinks-twins s sound a b place proper keeps;
    }

pub steps_move_nothing_else : StepsMoveNothingElse
steps_move_nothing_else s a b place =
    grind (arith, common_steps, new_at, new_live, old_at, old_live)

pub legality_is_local : LegalityIsLocal
legality_is_local s r once once' p q x y at = (
  legal-same s r p q x y once' at,
  legal-same r s p q (looks-sym s r p x) (looks-sym s r q y) once at,
)

pub steps_are_local : StepsAreLocal
steps_are_local s sound proper a b place ok p q x y at =
    legality_is_local s (collapsed s a b place) proper.once
    (collapse-proper s sound proper a b place (legal-apart s a b place ok)).once p q
    (far-same s sound a b p place x) (far-same s sound a b q place y) at

pub neighbours_are_kept : NeighboursAreKept
neighbours_are_kept s sound proper a b place ok p other =
    let link = legal-linkable s a b place ok in (
      neighbours-kept s sound proper a b place link p other,
      neighbours-were s sound proper a b place
          link p other.not_new,
    )

pub other_sides_stay : OtherSidesStay
other_sides_stay s sound proper a b place ok e p q op oq = (
  (
    runs-stay s sound a b place e p q op oq,
    runs-were s sound a b place e p q op.not_new
        oq.not_new,
  ),
  twin-same s sound a b place proper (legal-apart s a b place ok) e p q op oq,
)

pub faces_are_counted : FacesAreCounted
faces_are_counted s sound proper a b place ok =
    let all = faces-left s sound proper a b place in
    let left = ap one_if (is_some-map face_of (side_from_to (net_of_surface s) a b)) in
    let right = ap one_if (is_some-map face_of (side_from_to (net_of_surface s) b a)) in
    omega arith

pub legal_steps_keep_manifolds : LegalStepsKeepManifolds
legal_steps_keep_manifolds s sound manifold a b place ok =
    collapse-manifold s sound a b place (legal-linkable s a b place ok) manifold
