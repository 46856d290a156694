use Rattle.std.proofs.Common.{rules, FitsSigned, w64}
use Rattle.std.proofs.lemmas.Int.{to_z-of_z}
use Rattle.pm_bounds.proofs.normal_box.upper.Goals as goal

pub returns : goal.returns
returns c =
    let mx : FitsSigned w64 c.args.m.x = search rules in
    let my : FitsSigned w64 c.args.m.y = search rules in
    let mz : FitsSigned w64 c.args.m.z = search rules in
    let nx : FitsSigned w64 c.args.n.x = search rules in
    let ny : FitsSigned w64 c.args.n.y = search rules in
    let nz : FitsSigned w64 c.args.n.z = search rules in
    let rx : FitsSigned w64 c.max.result = search rules in
    let ry : FitsSigned w64 c.max-2.result = search rules in
    let rz : FitsSigned w64 c.max-3.result = search rules in
    simp to_z-of_z (rw (c.max.ensures.value, c.max-2.ensures.value, c.max-3.ensures.value)
    (simp to_z-of_z))
