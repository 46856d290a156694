use Rattle.std.proofs.Common.{[], ◌∷◌, ◌∙◌, List, ap, arith}
use Rattle.std.specs.Prelude.{pos}
use Rattle.pm_base.specs.Geometry.{Direction}
use Rattle.pm_quadric.specs.Planes.{Plane, plane_through}
use Rattle.pm_quadric.specs.Sums.{Sums, StandsFor, sums_of}
use Rattle.pm_fine.specs.FinePlanes.{direction}
use Rattle.pm_fine.proofs.point.point_quadric.Goals as goal

pub returns-clause-stands : goal.returns-clause-stands
returns-clause-stands c =
    let here : Direction → Plane = λ n. plane_through n c.args.p in
    let with : List Plane → Plane → Sums = λ fs f. sums_of (f ∷ fs) in
    let one : List Plane = here (direction (pos 0) (pos 0) (pos 2)) ∷ [] in
    let two : List Plane = here (direction (pos 0) (pos 2) (pos 0)) ∷ one in
    let z : StandsFor c.of_plane-z.result one =
    c.of_plane-z.ensures ∙ ap (with []) (c.through.ensures ∙ ap here c.new.ensures) in
    let y : StandsFor c.with_plane-y.result two =
    c.with_plane-y.ensures one z
    ∙ ap (with one) (c.through-2.ensures ∙ ap here c.new-2.ensures) in
    c.with_plane.ensures two y
    ∙ ap (with two) (c.through-3.ensures ∙ ap here c.new-3.ensures)

pub returns-clause-three : goal.returns-clause-three
returns-clause-three c = omega (arith, ap (λ (s : Sums). s.count) (returns-clause-stands c))
