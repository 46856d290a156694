-- Legality of a pair is a matter of what the faces at its two ends look like, and a collapse
-- changes only what is near.
use Rattle.std.proofs.Common.{◌≡◌, ℕ, sym, ap, ◌∙◌, arith}
use Rattle.std.proofs.lemmas.Grind.{common_steps}
use Rattle.std.specs.Prelude.{pos, ◌≤ℤ◌}
use Rattle.pm_base.specs.Place.{Place}
use Rattle.pm_base.specs.Geometry.{cross_of, dot_of}
use Rattle.pm_base.specs.Sides.{Net, next, prev, to, third, NoSideTwice}
use Rattle.pm_base.proofs.Sides.{stands_next}
use Rattle.pm_runs.specs.Surfaces.{Surface, next_vertex, place_at, net_of_surface, IsSurface}
use Rattle.pm_runs.specs.Surfaces.{collapsed}
use Rattle.pm_runs.specs.Pairs.{StayUpright, IsLegalPair}
use Rattle.pm_runs.specs.Merged.{AgreesAt, merged}
use Rattle.pm_runs.specs.Nearby.{LooksSameAt, IsFar}
use Rattle.pm_runs.proofs.Around.{same-linkable, merge-agrees, not_to, not_third}
use Rattle.pm_runs.proofs.Collapsed.{collapse-alike}
use Rattle.pm_runs.proofs.Legal.{legal-linkable, linkable-legal}
use Rattle.pm_runs.proofs.Live.{surface-fresh, old_at}

pub agrees-trans : (m n o : Net) (p : ℕ) → AgreesAt m n p → AgreesAt n o p → AgreesAt m o p
agrees-trans m n o p a b = grind (arith, common_steps)

pub looks-sym : (s r : Surface) (p : ℕ) → LooksSameAt s r p → LooksSameAt r s p
looks-sym s r p a = record {
  faces = record { forth = a.faces.back; back = a.faces.forth };
  places = λ e st is.
      let f = a.faces.back e st is in
      let q = a.places e f.0 f.1 in (
        sym q.0,
        ap (place_at s) (sym f.2) ∙ sym q.1 ∙ ap (place_at r) f.2,
        ap (place_at s) (sym f.3) ∙ sym q.2 ∙ ap (place_at r) f.3,
      );
}

same_upright : (place x y z x' y' z' : Place) → x' ≡ x → y' ≡ y → z' ≡ z
    → pos 0 ≤ℤ dot_of (cross_of place y z) (cross_of x y z)
    → pos 0 ≤ℤ dot_of (cross_of place y' z') (cross_of x' y' z')
same_upright place x y z x' y' z' i j k h = grind (arith, common_steps)

module _ (s r : Surface) (a b : ℕ) (at_a : LooksSameAt s r a) (at_b : LooksSameAt s r b) where
  upright-same : (place : Place) → StayUpright s a b place → StayUpright r a b place
  upright-same place ok =
      λ e p q pair st is x y.
      let here : LooksSameAt s r p = grind (arith, common_steps) in
      let f = here.faces.back e st is in
      let w = here.places e f.0 f.1 in
      same_upright place (place_at s p) (place_at s (to (net_of_surface s) e))
      (place_at s (third (net_of_surface s) e)) _ _ _ w.0
      (ap (place_at r) (sym f.2) ∙ w.1) (ap (place_at r) (sym f.3) ∙ w.2)
      (ok e p q pair f.0 f.1 (λ z. x (sym f.2 ∙ z)) (λ z. y (sym f.3 ∙ z)))

  pub legal-same : NoSideTwice (net_of_surface r) → (place : Place) → IsLegalPair s a b place
      → IsLegalPair r a b place
  legal-same once place ok =
      linkable-legal r once a b place
      (same-linkable (net_of_surface s) (net_of_surface r) a b at_a.faces at_b.faces
      (legal-linkable s a b place ok))
      (upright-same place ok.upright)

-- A vertex that is far from the two looks as before.
pub far-same : (s : Surface) → IsSurface s → (a b p : ℕ) (place : Place) → IsFar s a b p
    → LooksSameAt s (collapsed s a b place) p
far-same s sound a b p place far =
    let m : Net = net_of_surface s in
    let n : ℕ = next_vertex s in
    let fresh = surface-fresh s sound in
    record {
      faces = agrees-trans m (merged m a b n) (net_of_surface (collapsed s a b place)) p
          (merge-agrees m a b n p fresh far.other.not_new far.other.not_first far.other.not_second
          far.off_first far.off_second)
          (collapse-alike s a b place p);
      places = λ e st is.
          let i = not_to m a b n p fresh far.other.not_new far.other.not_first far.other.not_second
          far.off_first far.off_second e st is in
          let j = not_third m a b n p fresh far.other.not_new far.other.not_first
          far.other.not_second far.off_first far.off_second e st is in
          let st1 = stands_next m e st in (
            old_at s a b place p far.other.not_new far.other.not_first far.other.not_second,
            old_at s a b place (to m e) (fresh (next e) st1) i.0 i.1,
            old_at s a b place (third m e) (fresh (prev e) (stands_next m (next e) st1)) j.0 j.1,
          );
    }
