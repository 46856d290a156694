-- What two meshes share in an oriented manifold is on the borders of both.
use Rattle.std.proofs.Common.{ℕ, inl, inr, refl}
use Rattle.pm_base.specs.Sides.{Net, to, third, IsBorder}
use Rattle.pm_base.specs.Fans.{IsUsed, IsOrientedManifold}
use Rattle.pm_base.proofs.FanLaws.{every_round}
use Rattle.pm_seams.specs.Laws as law
use Rattle.pm_seams.proofs.Sums.{sums}
use Rattle.pm_seams.proofs.Borders.{IsFirstIn, led_to, leads_on, border?}
use Rattle.pm_seams.proofs.Chains.{AreWithin, within, no_room}

first_in : (m : Net) (v : ℕ) → IsUsed m v → (x : ℕ) × IsFirstIn m v x
first_in m v (e, s, at) =
    (to m e, (third m e, record { side = e; stands = s; at = at; one = refl; two = refl }))

pub on_border :
    (m a r : Net) → IsOrientedManifold m → AreWithin m a r → (v : ℕ) → IsUsed a v → IsUsed r v →
    IsBorder a v
on_border m a r manifold both v used also =
    elim (border? a v) [
      | inl border ↦ border
      | inr never ↦
          let (x, first) = first_in a v used in
          let (p, other) = first_in r v also in
          absurd (no_room m a r both manifold.no_side_twice v
          (λ y z f. elim (led_to a v y z f) [
            | inr h ↦ h
            | inl b ↦ absurd (never (b.side, b.border, inl b.begins))
          ])
          (λ y z f. elim (leads_on a v y z f) [
            | inr h ↦ h
            | inl b ↦ absurd (never (b.side, b.border, inr b.ends))
          ])
          (every_round m manifold v) x p first other)
    ]

pub shared_on_borders : law.SharedVerticesAreOnBorders
shared_on_borders a b manifold v used also =
    on_border _ a b manifold (within _ a b (sums a b) manifold.no_side_twice) v used also
