-- A legal collapse keeps an oriented manifold, and so does a run.
use Rattle.std.proofs.Common.{ℕ, List, [], ◌∷◌, sym, ◌∙◌}
use Rattle.pm_base.specs.Place.{Place}
use Rattle.pm_base.specs.declared.log.Collapse.{Collapse}
use Rattle.pm_base.specs.Meshes.{Mesh}
use Rattle.pm_base.specs.Sides.{Net, net_of}
use Rattle.pm_base.specs.Fans.{IsPairAt, IsOrientedManifold}
use Rattle.pm_base.specs.Rounds.{Goes, stay, on, IsRound, NoMirrorAt}
use Rattle.pm_base.proofs.Sides.{back}
use Rattle.pm_base.proofs.FanLaws.{round_fan, every_round}
use Rattle.pm_runs.specs.Surfaces.{Surface, next_vertex, net_of_surface, surface_of, IsSurface}
use Rattle.pm_runs.specs.Surfaces.{collapsed}
use Rattle.pm_runs.specs.Runs.{IsStartOfRun, after_entry, surface_from, surface_after, AreSteps}
use Rattle.pm_runs.specs.Runs.{IsRun}
use Rattle.pm_runs.specs.Merged.{NoMirror, IsProper, IsLinkable, Alike, merged, IsFresh}
use Rattle.pm_runs.proofs.Alike.{same_side, back_side, alike-proper}
use Rattle.pm_runs.proofs.Collapsed.{collapse-alike, input-alike}
use Rattle.pm_runs.proofs.Legal.{legal-linkable}
use Rattle.pm_runs.proofs.Live.{surface-fresh, collapse-sound, input-sound}
use Rattle.pm_runs.proofs.Proper.{manifold-proper, merge-proper}
use Rattle.pm_runs.proofs.MergedRounds.{rounds_after}

no_mirror_at : (m : Net) → NoMirror m → (v : ℕ) → NoMirrorAt m v
no_mirror_at m none v x y f g =
    let k = back m v y x g in
    none f.side k.side f.stands k.stands (k.at ∙ sym f.one) (k.one ∙ sym f.at) (k.two ∙ sym f.two)

pub rounds-manifold : (m : Net) → IsProper m → ((v : ℕ) → IsRound m v) → IsOrientedManifold m
rounds-manifold m proper rounds = record {
  no_side_twice = proper.once;
  fans = λ v used. round_fan m proper.once v (no_mirror_at m proper.no_mirror v) (rounds v);
}

pub merge-manifold : (m : Net) (t u s : ℕ) → IsFresh m s → IsLinkable m t u → IsOrientedManifold m
    → IsOrientedManifold (merged m t u s)
merge-manifold m t u s fresh link manifold =
    rounds-manifold (merged m t u s)
    (merge-proper m t u s fresh link.apart (manifold-proper m manifold))
    (rounds_after m manifold.no_side_twice t u s fresh link (every_round m manifold))

module _ (m n : Net) (alike : Alike m n) where
  pair-same : (v x y : ℕ) → IsPairAt m v x y → IsPairAt n v x y
  pair-same v x y f = let k = same_side m n alike f.side f.stands in
      record { side = f.side; stands = k.0; at = k.1 ∙ f.at; one = k.2 ∙ f.one; two = k.3 ∙ f.two }

  pair-back : (v x y : ℕ) → IsPairAt n v x y → IsPairAt m v x y
  pair-back v x y f = let k = back_side m n alike f.side f.stands in
      record { side = f.side; stands = k.0; at = k.1 ∙ f.at; one = k.2 ∙ f.one; two = k.3 ∙ f.two }

  goes-same : (v : ℕ) {a x : ℕ} → Goes m v a x → Goes n v a x
  goes-same v stay = stay
  goes-same v (on {x = x} {y = y} w f) = on (goes-same v w) (pair-same v x y f)

  round-same : (v : ℕ) → IsRound m v → IsRound n v
  round-same v (a, all) = (a, λ x y f. goes-same v (all x y (pair-back v x y f)))

  pub manifold-same : IsOrientedManifold m → IsOrientedManifold n
  manifold-same manifold =
      let proper = manifold-proper m manifold in
      rounds-manifold n (alike-proper m n alike proper)
      (λ v. round-same v (every_round m manifold v))

pub collapse-manifold : (s : Surface) → IsSurface s → (a b : ℕ) (place : Place)
    → IsLinkable (net_of_surface s) a b → IsOrientedManifold (net_of_surface s)
    → IsOrientedManifold (net_of_surface (collapsed s a b place))
collapse-manifold s sound a b place link manifold =
    manifold-same (merged (net_of_surface s) a b (next_vertex s))
    (net_of_surface (collapsed s a b place)) (collapse-alike s a b place)
    (merge-manifold (net_of_surface s) a b (next_vertex s) (surface-fresh s sound) link manifold)

stays_manifold : (s : Surface) (cs : List Collapse) → IsSurface s
    → IsOrientedManifold (net_of_surface s) → AreSteps s cs
    → IsOrientedManifold (net_of_surface (surface_from s cs))
stays_manifold s [] sound manifold steps = manifold
stays_manifold s (c ∷ cs) sound manifold steps =
    stays_manifold (after_entry s c) cs (collapse-sound s sound c.t c.u c.place)
    (collapse-manifold s sound c.t c.u c.place (legal-linkable s c.t c.u c.place steps.0.legal)
    manifold) steps.1

pub run-manifold : (m : Mesh) → IsStartOfRun m → (log : List Collapse) → IsRun m log
    → IsOrientedManifold (net_of_surface (surface_after m log))
unfolding IsRun surface_after
run-manifold m start log run =
    stays_manifold (surface_of m) log (input-sound m start.formed)
    (manifold-same (net_of m.faces) (net_of_surface (surface_of m)) (input-alike m)
    start.manifold) run
