-- Neither a side nor a face comes twice: in an oriented manifold, and after each collapse of a
-- legal pair.
use Rattle.std.proofs.Common.{ℕ, arith}
use Rattle.std.proofs.lemmas.Grind.{common_steps}
use Rattle.pm_base.specs.Place.{Place}
use Rattle.pm_base.specs.Meshes.{Mesh}
use Rattle.pm_base.specs.Sides.{Net, to, third, net_of}
use Rattle.pm_base.specs.Fans.{IsOrientedManifold}
use Rattle.pm_base.proofs.Sides.{stands_next, next-next-next}
use Rattle.pm_base.proofs.FanLaws.{no_mirror}
use Rattle.pm_runs.specs.Surfaces.{Surface, next_vertex, net_of_surface, surface_of, IsSurface}
use Rattle.pm_runs.specs.Surfaces.{collapsed}
use Rattle.pm_runs.specs.Pairs.{IsLegalPair}
use Rattle.pm_runs.specs.Merged.{NoMirror, IsProper, KeepsApart, merged, IsFresh}
use Rattle.pm_runs.proofs.Apart.{once_after, no_mirror_after}
use Rattle.pm_runs.proofs.Alike.{alike-proper}
use Rattle.pm_runs.proofs.Collapsed.{collapse-alike, input-alike}
use Rattle.pm_runs.proofs.Legal.{legal-linkable}
use Rattle.pm_runs.proofs.Live.{surface-fresh}

manifold_no_mirror : (m : Net) → IsOrientedManifold m → NoMirror m
manifold_no_mirror m manifold e g st st' i j k =
    grind (
      arith,
      common_steps,
      next-next-next g,
      no_mirror m manifold (m.from e) (to m e) (third m e),
      stands_next m g st',
    )

pub manifold-proper : (m : Net) → IsOrientedManifold m → IsProper m
manifold-proper m manifold = grind (arith, common_steps, manifold_no_mirror, no_mirror)

pub input-proper : (m : Mesh) → IsOrientedManifold (net_of m.faces)
    → IsProper (net_of_surface (surface_of m))
input-proper m manifold =
    alike-proper (net_of m.faces) (net_of_surface (surface_of m)) (input-alike m)
    (manifold-proper (net_of m.faces) manifold)

pub merge-proper : (m : Net) (t u s : ℕ) → IsFresh m s → KeepsApart m t u → IsProper m
    → IsProper (merged m t u s)
merge-proper m t u s fresh keeps proper = record {
  once = once_after m t u s fresh keeps proper.once;
  no_mirror = no_mirror_after m t u s fresh keeps proper.once proper.no_mirror;
}

pub legal-apart : (s : Surface) (a b : ℕ) (place : Place) → IsLegalPair s a b place
    → KeepsApart (net_of_surface s) a b
legal-apart s a b place ok = (legal-linkable s a b place ok).apart

-- The new vertex may be put anywhere.
pub collapse-proper : (s : Surface) → IsSurface s → IsProper (net_of_surface s)
    → (a b : ℕ) (place : Place) → KeepsApart (net_of_surface s) a b
    → IsProper (net_of_surface (collapsed s a b place))
collapse-proper s sound proper a b place keeps =
    alike-proper (merged (net_of_surface s) a b (next_vertex s))
    (net_of_surface (collapsed s a b place)) (collapse-alike s a b place)
    (merge-proper (net_of_surface s) a b (next_vertex s) (surface-fresh s sound) keeps proper)
