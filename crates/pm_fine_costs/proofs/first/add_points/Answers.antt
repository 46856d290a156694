use Rattle.std.proofs.Common.{◌≡◌, ◌<◌, ◌∙◌, ℕ, [], length, slice_index_or, ap, refl, arith}
use Rattle.std.proofs.lemmas.List.{get_or_default, length-set}
use Rattle.pm_base.specs.Place.{Place, place_of}
use Rattle.pm_fine_costs.proofs.PointLaws.{one_more, others_none}
use Rattle.pm_fine_costs.proofs.first.add_points.Goals as goal

pub loop-v-init : goal.loop-v-init
loop-v-init c = record {
  len = c.requires.len;
  done = λ v l. absurd (omega arith);
  left = λ v l. refl;
}

pub loop-v-preserved : goal.loop-v-preserved
loop-v-preserved c =
    let i = c.loop-v.invariant in
    let v : ℕ = c.loop-v.v in
    let point : Place = c.index-points-v.result in
    let low : v < length c.args.points.now = omega (arith, c.loop-v-test.true) in
    let within : v < length c.loop-v.quadrics.items = omega (arith, i.len) in
    let at : point ≡ slice_index_or c.args.points.now v (place_of []) =
    c.index-points-v.is ∙ get_or_default c.args.points.now v point (place_of []) low in
    record {
      len = ap length c.add_point.ensures ∙ length-set _ _ _ ∙ i.len;
      done = one_more c.args.quadrics.now.items c.loop-v.quadrics.items
          c.add_point.new.quadrics.items c.args.points.now v point within at c.add_point.ensures
          i.done i.left;
      left = others_none c.args.quadrics.now.items c.loop-v.quadrics.items
          c.add_point.new.quadrics.items c.args.points.now v point within at c.add_point.ensures
          i.left;
    }

pub returns-clause-each : goal.returns-clause-each
returns-clause-each c = λ v l.
    c.loop-v.invariant.done v (omega (arith, l, c.loop-v-test.false))
