use Rattle.std.proofs.Common.{◌≡◌, to_z, of_z, refl, sym, subst, rules}
use mir.Syntax.{w128}
use Rattle.pm_fine_costs.specs.declared.face_sum.FaceSum.{FaceSum}
use Rattle.pm_fine_costs.specs.Volumes.{face_of, IsSmall}
use Rattle.pm_fine_costs.proofs.VolumeLaws.{face_small}
use Rattle.pm_fine_costs.proofs.face_sum.FaceSum.of.Goals as goal

pub returns-clause-value : goal.returns-clause-value
returns-clause-value c =
    let f : FaceSum = face_of c.args.corner.now c.args.p in
    let x : to_z w128 (of_z w128 c.from.result) ≡ f.x = search rules in
    let y : to_z w128 (of_z w128 c.from-2.result) ≡ f.y = search rules in
    let z : to_z w128 (of_z w128 c.from-3.result) ≡ f.z = search rules in
    let volume : to_z w128 (of_z w128 c.dot.result) ≡ f.volume = search rules in
    rw (x, y, z, volume) refl

pub returns-clause-small : goal.returns-clause-small
returns-clause-small c =
    subst (IsSmall 1) (sym (returns-clause-value c))
    (face_small c.args.corner.now c.args.p c.cross-n.ensures.small c.way.ensures.short)
