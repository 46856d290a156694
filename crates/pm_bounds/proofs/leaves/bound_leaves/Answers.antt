use Rattle.std.proofs.Common.{◌≡◌, sym, subst, arith}
use Rattle.pm_forest.specs.Faces.{face_count}
use Rattle.pm_bounds.specs.Leaves.{AreSeen}
use Rattle.pm_bounds.proofs.LeafTables.{seen_none, seen_place, seen_more, seen_all}
use Rattle.pm_bounds.proofs.leaves.bound_leaves.Goals as goal

pub loop-f-init : goal.loop-f-init
loop-f-init c = seen_none c.args.h.now c.args.leaves.items c.requires.bare_leaves

pub widen_corners-requires-clause-places : goal.widen_corners-requires-clause-places
widen_corners-requires-clause-places c =
    seen_place c.args.h.now c.loop-f.f c.loop-f.leaves.items c.loop-f.invariant

pub loop-f-preserved : goal.loop-f-preserved
loop-f-preserved c =
    let wider = c.widen_corners.ensures in
    seen_more c.args.h.now c.invariant.ensures c.loop-f.f
    (omega (arith, c.loop-f-test.true, c.faces-f-end.ensures.value))
    c.loop-f.leaves.items c.widen_corners.new.leaves.items c.loop-f.invariant wider.len wider.wider
    wider.small

pub give_nodes-requires-clause-leaves : goal.give_nodes-requires-clause-leaves
give_nodes-requires-clause-leaves c =
    let h = c.args.h.now in
    let all : c.loop-f.f ≡ face_count h =
    omega (arith, c.loop-f-test.false, c.loop-f.auto.f-end, c.faces-f-end.ensures.value) in
    subst (AreSeen h) (sym c.deref.ensures.value)
    (seen_all h c.loop-f.f c.loop-f.leaves.items all c.loop-f.invariant)
