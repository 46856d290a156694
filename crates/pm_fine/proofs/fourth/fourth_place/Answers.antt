use Rattle.std.proofs.Common.{◌≡◌, ◌*◌, ◌^◌, ap, ◌∙◌, rules}
use Rattle.pm_base.specs.Place.{Place}
use Rattle.pm_quadric.specs.Sums.{Sums}
use Rattle.pm_fine.specs.declared.matrix.Matrix.{Matrix}
use Rattle.pm_fine.specs.declared.matrix.Vector.{Vector}
use Rattle.pm_fine.specs.Fourth.{reach_of, fourth_place_of}
use Rattle.pm_fine.proofs.FourthPlaces.{fourth_is}
use Rattle.pm_fine.proofs.fourth.fourth_place.Goals as goal

pub solved_place-requires-clause-matrix : goal.solved_place-requires-clause-matrix
solved_place-requires-clause-matrix c =
    let k = c.digits-digits.result in
    let on = c.digits-digits.ensures in
    let all = c.matrix-matrix.ensures.balanced (2 ^ 33 * 2 ^ k) on.xx on.yy on.zz in
    c.short.ensures.within (2 ^ 33) all

pub returns-clause-value : goal.returns-clause-value
returns-clause-value c =
    let m : Place = c.midpoint_of-m.result in
    let k = c.digits-digits.result in
    let a : Matrix = c.matrix-matrix.result in
    let g : Vector = c.half_gradient.result in
    let r = c.max-reach.result in
    let reach : r ≡ reach_of m c.args.t c.args.u = search rules in
    fourth_is c.args.q.now c.args.t c.args.u m r k a c.short.result g c.short-gradient.result
    c.solved_place.result c.midpoint_of-m.ensures reach c.matrix-matrix.ensures.value
    c.digits-digits.ensures.value c.short.ensures.value c.half_gradient.ensures
    c.short-gradient.ensures c.solved_place.ensures

pub returns-clause-lists : goal.returns-clause-lists
returns-clause-lists c fs h =
    returns-clause-value c ∙ ap (λ (s : Sums). fourth_place_of s c.args.t c.args.u) h
