use Rattle.std.proofs.Common.{◌∙◌, true, false, refl, sym, arith}
use Rattle.std.proofs.lemmas.Bool.Decides.{nat_tests}
use Rattle.pm_forest.proofs.FaultLaws.{new_face_coming}
use Rattle.pm_forest.proofs.face_faults.is_new_face_bad.Goals as goal

pub returns-then-is_out_of_place-clause-exact : goal.returns-then-is_out_of_place-clause-exact
returns-then-is_out_of_place-clause-exact c =
    let g = c.args.forest.now in
    new_face_coming g.h g.coming c.args.split.now c.args.left true c.args.f.now c.args.first
    c.args.second _ _
    c.requires.coming (sym c.if-is_out_of_place.true ∙ c.is_out_of_place.ensures) refl refl

pub returns-then-second-sides-clause-exact : goal.returns-then-second-sides-clause-exact
returns-then-second-sides-clause-exact c =
    let g = c.args.forest.now in
    new_face_coming g.h g.coming c.args.split.now c.args.left false c.args.f.now c.args.first
    c.args.second
    c.first_face-sides.result _ c.requires.coming (sym c.if-is_out_of_place.false
    ∙ c.is_out_of_place.ensures) c.first_face-sides.ensures.value refl
    ∙ grind (arith, nat_tests)

pub returns-else-second-sides-clause-exact : goal.returns-else-second-sides-clause-exact
returns-else-second-sides-clause-exact c =
    let g = c.args.forest.now in
    new_face_coming g.h g.coming c.args.split.now c.args.left false c.args.f.now c.args.first
    c.args.second
    c.first_face-sides.result c.faces.result c.requires.coming (sym c.if-is_out_of_place.false
    ∙ c.is_out_of_place.ensures) c.first_face-sides.ensures.value c.faces.ensures.value
    ∙ grind (arith, nat_tests)
