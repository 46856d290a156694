use Rattle.std.proofs.Common.{refl, FitsSigned, w64, rules}
use mir.Syntax.{w16}
use Rattle.std.proofs.lemmas.Int.{to_z-of_z}
use Rattle.pm_ears.specs.Areas.{cross_of}
use Rattle.pm_ears.proofs.spots.cross.Goals as goal

pub minus-requires-clause-a_small : goal.minus-requires-clause-a_small
minus-requires-clause-a_small c =
    let f : FitsSigned w64 c.product.result = search rules in
    simp to_z-of_z c.product.ensures.small

pub minus-requires-clause-b_small : goal.minus-requires-clause-b_small
minus-requires-clause-b_small c =
    let f : FitsSigned w64 c.product-2.result = search rules in
    simp to_z-of_z c.product-2.ensures.small

pub returns-clause-value : goal.returns-clause-value
unfolding cross_of
returns-clause-value c =
    let px : FitsSigned w16 c.args.p.x = search rules in
    let py : FitsSigned w16 c.args.p.y = search rules in
    let qx : FitsSigned w16 c.args.q.x = search rules in
    let qy : FitsSigned w16 c.args.q.y = search rules in
    let fa : FitsSigned w64 c.product.result = search rules in
    let fb : FitsSigned w64 c.product-2.result = search rules in
    let f : FitsSigned w64 c.minus.result = search rules in
    let difference = simp to_z-of_z at c.minus.ensures.value in
    let first = simp to_z-of_z at c.product.ensures.value in
    let second = simp to_z-of_z at c.product-2.ensures.value in
    simp to_z-of_z (rw (difference, first, second) refl)

pub returns-clause-small : goal.returns-clause-small
returns-clause-small c =
    let f : FitsSigned w64 c.minus.result = search rules in
    simp to_z-of_z c.minus.ensures.small
