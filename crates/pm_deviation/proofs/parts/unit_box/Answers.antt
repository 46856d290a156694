use Rattle.std.proofs.Common.{◌≡◌, ℕ, ◌<◌, ◌≤◌, ◌∙◌, ap, sym, subst, rules, arith, FitsSigned, w64}
use Rattle.std.proofs.Common.{to_z, of_z}
use Rattle.std.proofs.lemmas.Int.{to_z-of_z}
use Rattle.pm_base.specs.Geometry.{Direction}
use Rattle.pm_base.specs.Rounded.{root_up}
use Rattle.pm_deviation.specs.Normals.{root_down, part_of}
use Rattle.pm_deviation.proofs.PartLaws.{root_down-some, roots_order}
use Rattle.pm_deviation.proofs.RootLaws.{x_below, y_below, z_below, no_box, box_there}
use Rattle.pm_deviation.proofs.parts.unit_box.Goals as goal

some_root : (q r : ℕ) → r ≡ root_down q → 0 < q → 0 < r
some_root q r is some = subst (λ (s : ℕ). 0 < s) (sym is) (root_down-some q some)

in_order : (q r s : ℕ) → r ≡ root_down q → s ≡ root_up q → r ≤ s
in_order q r s down up = omega (arith, roots_order q)

pub returns-then-square-eq0-clause-value : goal.returns-then-square-eq0-clause-value
returns-then-square-eq0-clause-value c =
    let n : Direction = record { x = c.args.x; y = c.args.y; z = c.args.z } in
    let fx : FitsSigned w64 c.args.x = search rules in
    let fy : FitsSigned w64 c.args.y = search rules in
    let fz : FitsSigned w64 c.args.z = search rules in
    let square = simp to_z-of_z at c.norm2-square.ensures.value in
    no_box n c.norm2-square.result square
    (omega (arith, c.if-square-eq0.true))

pub part-requires-clause-part : goal.part-requires-clause-part
part-requires-clause-part c =
    let n : Direction = record { x = c.args.x; y = c.args.y; z = c.args.z } in
    let fx : FitsSigned w64 c.args.x = search rules in
    let fy : FitsSigned w64 c.args.y = search rules in
    let fz : FitsSigned w64 c.args.z = search rules in
    let square = simp to_z-of_z at c.norm2-square.ensures.value in
    x_below n c.norm2-square.result c.root_down-short.result (to_z w64 (of_z w64 c.args.x))
    square c.root_down-short.ensures.value (to_z-of_z w64 c.args.x fx)

pub part-requires-clause-some : goal.part-requires-clause-some
part-requires-clause-some c =
    some_root c.norm2-square.result c.root_down-short.result c.root_down-short.ensures.value
    (omega (arith, c.if-square-eq0.false))

pub part-requires-clause-order : goal.part-requires-clause-order
part-requires-clause-order c =
    in_order c.norm2-square.result c.root_down-short.result c.root_up-long.result
    c.root_down-short.ensures.value c.root_up-long.ensures.value

pub part-requires-2-clause-part : goal.part-requires-2-clause-part
part-requires-2-clause-part c =
    let n : Direction = record { x = c.args.x; y = c.args.y; z = c.args.z } in
    let fx : FitsSigned w64 c.args.x = search rules in
    let fy : FitsSigned w64 c.args.y = search rules in
    let fz : FitsSigned w64 c.args.z = search rules in
    let square = simp to_z-of_z at c.norm2-square.ensures.value in
    y_below n c.norm2-square.result c.root_down-short.result (to_z w64 (of_z w64 c.args.y))
    square c.root_down-short.ensures.value (to_z-of_z w64 c.args.y fy)

pub part-requires-2-clause-some : goal.part-requires-2-clause-some
part-requires-2-clause-some c =
    some_root c.norm2-square.result c.root_down-short.result c.root_down-short.ensures.value
    (omega (arith, c.if-square-eq0.false))

pub part-requires-2-clause-order : goal.part-requires-2-clause-order
part-requires-2-clause-order c =
    in_order c.norm2-square.result c.root_down-short.result c.root_up-long.result
    c.root_down-short.ensures.value c.root_up-long.ensures.value

pub part-requires-3-clause-part : goal.part-requires-3-clause-part
part-requires-3-clause-part c =
    let n : Direction = record { x = c.args.x; y = c.args.y; z = c.args.z } in
    let fx : FitsSigned w64 c.args.x = search rules in
    let fy : FitsSigned w64 c.args.y = search rules in
    let fz : FitsSigned w64 c.args.z = search rules in
    let square = simp to_z-of_z at c.norm2-square.ensures.value in
    z_below n c.norm2-square.result c.root_down-short.result (to_z w64 (of_z w64 c.args.z))
    square c.root_down-short.ensures.value (to_z-of_z w64 c.args.z fz)

pub part-requires-3-clause-some : goal.part-requires-3-clause-some
part-requires-3-clause-some c =
    some_root c.norm2-square.result c.root_down-short.result c.root_down-short.ensures.value
    (omega (arith, c.if-square-eq0.false))

pub part-requires-3-clause-order : goal.part-requires-3-clause-order
part-requires-3-clause-order c =
    in_order c.norm2-square.result c.root_down-short.result c.root_up-long.result
    c.root_down-short.ensures.value c.root_up-long.ensures.value

pub returns-clause-value : goal.returns-clause-value
returns-clause-value c =
    let n : Direction = record { x = c.args.x; y = c.args.y; z = c.args.z } in
    let q = c.norm2-square.result in
    let some : 0 < q = omega (arith, c.if-square-eq0.false) in
    let fx : FitsSigned w64 c.args.x = search rules in
    let fy : FitsSigned w64 c.args.y = search rules in
    let fz : FitsSigned w64 c.args.z = search rules in
    let square = simp to_z-of_z at c.norm2-square.ensures.value in
    let down = c.root_down-short.ensures.value in
    let up = c.root_up-long.ensures.value in
    box_there n q c.part.result c.part-2.result c.part-3.result square some
    (c.part.ensures.value q down up ∙ ap (λ k. part_of k q) (to_z-of_z w64 c.args.x fx))
    (c.part-2.ensures.value q down up ∙ ap (λ k. part_of k q) (to_z-of_z w64 c.args.y fy))
    (c.part-3.ensures.value q down up ∙ ap (λ k. part_of k q) (to_z-of_z w64 c.args.z fz))
