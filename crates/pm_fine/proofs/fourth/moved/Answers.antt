use Rattle.std.proofs.Common.{◌≡◌, ◌+ℤ◌, w32, to_z, of_z, refl, ap, ◌∙◌, rules}
use Rattle.pm_base.specs.Place.{Place}
use Rattle.pm_fine.specs.Fourth.{placed}
use Rattle.pm_fine.proofs.FourthPlaces.{point_is}
use Rattle.pm_fine.proofs.fourth.moved.Goals as goal

pub returns : goal.returns
returns c =
    let m : Place = c.args.m in
    let x = to_z w32 (of_z w32 c.plus.result) in
    let y = to_z w32 (of_z w32 c.plus-2.result) in
    let z = to_z w32 (of_z w32 c.plus-3.result) in
    let p : Place = record { x = m.x +ℤ c.args.x; y = m.y +ℤ c.args.y; z = m.z +ℤ c.args.z } in
    let q : Place = record { x = x; y = y; z = z } in
    let ex : x ≡ p.x = search rules in
    let ey : y ≡ p.y = search rules in
    let ez : z ≡ p.z = search rules in
    let e : q ≡ p = rw (ex, ey, ez) refl in
    point_is c.new.result q c.new.ensures.some c.new.ensures.in_range c.new.ensures.none
    ∙ ap (λ (v : Place). placed v) e
