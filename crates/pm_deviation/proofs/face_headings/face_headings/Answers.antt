use Rattle.std.proofs.Common.{◌≡◌, ◌<◌, [], ◌∷◌, ◌++◌, rules, arith}
use Rattle.pm_forest.specs.Faces.{face_count}
use Rattle.pm_deviation.proofs.HeadingTables.{faces_none, faces_more, faces_all, faces_of_all}
use Rattle.pm_deviation.proofs.face_headings.face_headings.Goals as goal

pub loop-f-init : goal.loop-f-init
loop-f-init c = faces_none c.args.h.now _ (search rules)

pub loop-f-preserved : goal.loop-f-preserved
loop-f-preserved c =
    let h = c.args.h.now in
    let f = c.loop-f.f in
    let d = c.face_heading.result in
    let below : f < face_count h = omega (arith, c.loop-f-test.true, c.faces-f-end.ensures.value) in
    let items : c.push.new.self.items ≡ c.loop-f.headings.items ++ d ∷ [] = search rules in
    let are = c.face_heading.ensures in
    faces_more h f c.loop-f.headings.items c.push.new.self.items d below c.loop-f.invariant items
    are.is are.a are.b are.c are.parts

pub returns-clause-are : goal.returns-clause-are
returns-clause-are c = c.loop-f.invariant.each

pub returns-clause-spreads : goal.returns-clause-spreads
returns-clause-spreads c =
    let h = c.args.h.now in
    faces_all h c.loop-f.f c.loop-f.headings.items
    (omega (arith, c.loop-f-test.false, c.loop-f.auto.f-end, c.faces-f-end.ensures.value))
    c.loop-f.invariant

pub returns-clause-faces : goal.returns-clause-faces
returns-clause-faces c =
    let h = c.args.h.now in
    let all : c.loop-f.f ≡ face_count h =
    omega (arith, c.loop-f-test.false, c.loop-f.auto.f-end, c.faces-f-end.ensures.value) in
    faces_of_all h c.loop-f.f c.loop-f.headings.items all c.loop-f.invariant
