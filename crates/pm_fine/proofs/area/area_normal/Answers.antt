use Rattle.std.proofs.Common.{◌≡◌, ◌∙◌, rules, arith, pos, ◌*ℤ◌}
use Rattle.pm_base.specs.Geometry.{Direction}
use Rattle.pm_fine.specs.Rounded.{near}
use Rattle.pm_fine.proofs.NormalLaws.{area_none, area_some}
use Rattle.pm_fine.proofs.area.area_normal.Goals as goal

pub returns-then-square-eq0-clause-value : goal.returns-then-square-eq0-clause-value
returns-then-square-eq0-clause-value c =
    let n : Direction = record { x = c.args.n.x; y = c.args.n.y; z = c.args.n.z } in
    c.zero.ensures ∙ area_none n c.norm2-square.result c.norm2-square.ensures.value (omega arith)

pub returns-clause-value : goal.returns-clause-value
returns-clause-value c =
    let n : Direction = record { x = c.args.n.x; y = c.args.n.y; z = c.args.n.z } in
    let d : Direction = record { x = c.part.result; y = c.part-2.result; z = c.part-3.result } in
    let en : c.new.result ≡ d = search rules in
    let ex : c.part.result ≡ near (pos 262144 *ℤ c.args.n.x) c.root_length-root.result =
    search rules in
    let ey : c.part-2.result ≡ near (pos 262144 *ℤ c.args.n.y) c.root_length-root.result =
    search rules in
    let ez : c.part-3.result ≡ near (pos 262144 *ℤ c.args.n.z) c.root_length-root.result =
    search rules in
    en ∙ area_some n c.norm2-square.result c.root_length-root.result c.part.result c.part-2.result
    c.part-3.result c.norm2-square.ensures.value (omega arith) c.root_length-root.ensures.value
    ex ey ez
