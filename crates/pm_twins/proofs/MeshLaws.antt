-- Each law, from the lemmas of the crate below.
use Rattle.std.proofs.Common.{inl, inr, refl}
use Rattle.pm_base.proofs.Sides.{one_side, one_side_in, one_second, one_first}
use Rattle.pm_base.proofs.NetLaws.{first_side, second_side, third_side, mesh_side}
use Rattle.pm_base.proofs.TwinLaws.{twin-is, twin-one, twin_back, other_face}
use Rattle.pm_base.proofs.Rounds.{one_out, one_in}
use Rattle.pm_base.proofs.FanLaws as fans
use Rattle.pm_twins.specs.Laws.{SidesAreCorners, MeshesStand, TwinsAreFound, TwinsAreMutual}
use Rattle.pm_twins.specs.Laws.{PairsAreDistinct, FansAreRounds, OneBorderSideEach, FansCloseInside}
use Rattle.pm_twins.specs.Laws.{NoTwoFacesAlike}

pub sides_are_corners : SidesAreCorners
sides_are_corners fs f = (first_side fs f, second_side fs f, third_side fs f)

pub meshes_stand : MeshesStand
meshes_stand m formed e l = mesh_side m formed e l

pub twins_are_found : TwinsAreFound
twins_are_found m once e g = (twin-is m e g, twin-one m once e g)

pub twins_are_mutual : TwinsAreMutual
twins_are_mutual m once e g t is =
    (twin_back m once e g t is, other_face m e g t (twin-is m e g is))

pub pairs_are_distinct : PairsAreDistinct
pairs_are_distinct m once v x y z = (
  (λ f g. (one_second m once f g, one_side m once f g)),
  (λ f g. (one_first m once f g, one_side_in m once f g)),
)

pub fans_are_rounds : FansAreRounds
fans_are_rounds m once v = (
  (λ fan. (fans.fan_round m v fan, fans.fan_no_mirror m v fan)),
  (λ h. fans.round_fan m once v h.1 h.0),
)

pub one_border_side_each : OneBorderSideEach
one_border_side_each m manifold e g be bg = (
  (λ same. one_out m manifold.no_side_twice _ (fans.every_round m manifold _) e g be bg same refl),
  (λ same. one_in m manifold.no_side_twice _ (fans.every_round m manifold _) e g be bg same refl),
)

pub fans_close_inside : FansCloseInside
fans_close_inside m v fan used = (
  (λ border. elim fan.ends [ inl o ↦ o | inr c ↦ absurd (fans.closed_inner m v fan c border) ]),
  (λ inner. elim fan.ends [ inl o ↦ absurd (inner (fans.open_border m v fan used o)) | inr c ↦ c ]),
)

pub no_two_faces_alike : NoTwoFacesAlike
no_two_faces_alike m manifold v x y f g = fans.no_mirror m manifold v x y f g
