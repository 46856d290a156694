use Rattle.std.proofs.Common.{refl, FitsSigned, w32, w64, rules}
use mir.Syntax.{w128}
use Rattle.std.proofs.lemmas.Int.{to_z-of_z}
use Rattle.pm_turn.specs.Choice.{determinant_of}
use Rattle.pm_turn.proofs.volumes.determinant.Goals as goal

pub product-requires-clause-a_small : goal.product-requires-clause-a_small
product-requires-clause-a_small c =
    let f : FitsSigned w32 c.x.result = search rules in
    simp to_z-of_z (rw c.x.ensures.value c.x.ensures.in_range.0)

pub product-requires-clause-n_small : goal.product-requires-clause-n_small
product-requires-clause-n_small c =
    let f : FitsSigned w64 c.cross-normal.result.x = search rules in
    simp to_z-of_z (rw c.cross-normal.ensures.x c.cross-normal.ensures.small.0)

pub product-requires-2-clause-a_small : goal.product-requires-2-clause-a_small
product-requires-2-clause-a_small c =
    let f : FitsSigned w32 c.y.result = search rules in
    simp to_z-of_z (rw c.y.ensures.value c.y.ensures.in_range.1)

pub product-requires-2-clause-n_small : goal.product-requires-2-clause-n_small
product-requires-2-clause-n_small c =
    let f : FitsSigned w64 c.cross-normal.result.y = search rules in
    simp to_z-of_z (rw c.cross-normal.ensures.y c.cross-normal.ensures.small.1)

pub product-requires-3-clause-a_small : goal.product-requires-3-clause-a_small
product-requires-3-clause-a_small c =
    let f : FitsSigned w32 c.z.result = search rules in
    simp to_z-of_z (rw c.z.ensures.value c.z.ensures.in_range.2)

pub product-requires-3-clause-n_small : goal.product-requires-3-clause-n_small
product-requires-3-clause-n_small c =
    let f : FitsSigned w64 c.cross-normal.result.z = search rules in
    simp to_z-of_z (rw c.cross-normal.ensures.z c.cross-normal.ensures.small.2)

pub add_three-requires-clause-a_small : goal.add_three-requires-clause-a_small
add_three-requires-clause-a_small c =
    let f : FitsSigned w128 c.product.result = search rules in
    simp to_z-of_z c.product.ensures.small

pub add_three-requires-clause-b_small : goal.add_three-requires-clause-b_small
add_three-requires-clause-b_small c =
    let f : FitsSigned w128 c.product-2.result = search rules in
    simp to_z-of_z c.product-2.ensures.small

pub add_three-requires-clause-c_small : goal.add_three-requires-clause-c_small
add_three-requires-clause-c_small c =
    let f : FitsSigned w128 c.product-3.result = search rules in
    simp to_z-of_z c.product-3.ensures.small

pub returns-clause-value : goal.returns-clause-value
unfolding determinant_of
returns-clause-value c =
    let normal = c.cross-normal.result in
    let fx : FitsSigned w32 c.x.result = search rules in
    let fy : FitsSigned w32 c.y.result = search rules in
    let fz : FitsSigned w32 c.z.result = search rules in
    let nx : FitsSigned w64 normal.x = search rules in
    let ny : FitsSigned w64 normal.y = search rules in
    let nz : FitsSigned w64 normal.z = search rules in
    let px : FitsSigned w128 c.product.result = search rules in
    let py : FitsSigned w128 c.product-2.result = search rules in
    let pz : FitsSigned w128 c.product-3.result = search rules in
    let f : FitsSigned w128 c.add_three.result = search rules in
    let x = simp to_z-of_z at c.product.ensures.value in
    let y = simp to_z-of_z at c.product-2.ensures.value in
    let z = simp to_z-of_z at c.product-3.ensures.value in
    let sum = simp to_z-of_z at c.add_three.ensures.value in
    simp to_z-of_z
    (rw (
      sum,
      x,
      y,
      z,
      c.x.ensures.value,
      c.y.ensures.value,
      c.z.ensures.value,
      c.cross-normal.ensures.x,
      c.cross-normal.ensures.y,
      c.cross-normal.ensures.z,
    ) refl)

pub returns-clause-small : goal.returns-clause-small
returns-clause-small c =
    let f : FitsSigned w128 c.add_three.result = search rules in
    simp to_z-of_z c.add_three.ensures.small
