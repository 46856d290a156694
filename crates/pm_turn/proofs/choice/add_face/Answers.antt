use Rattle.std.proofs.Common.{◌^◌, ◌<◌, ◌≤◌, subst}
use Rattle.std.specs.Prelude.{ℤ, unsigned_abs}
use Rattle.pm_turn.proofs.choice.add_face.Goals as goal

pub returns-clause-area : goal.returns-clause-area
returns-clause-area c =
    subst (λ i. i < 2 ^ 35) c.area_of-area.ensures.value c.area_of-area.ensures.small

pub returns-clause-volume : goal.returns-clause-volume
returns-clause-volume c =
    subst (λ (z : ℤ). unsigned_abs z ≤ 2 ^ 51) c.volume_of-volume.ensures.value
    c.volume_of-volume.ensures.small
