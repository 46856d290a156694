use Rattle.std.proofs.Common.{◌<◌, sym, subst}
use Rattle.pm_forest.specs.declared.parts.Face.{Face}
use Rattle.pm_forest.specs.Forest.{leaf_count}
use Rattle.pm_forest.proofs.ViewLaws.{corner_below}
use Rattle.pm_deviation.proofs.leaves.face_leaves.Goals as goal

pub returns-clause-a_leaf : goal.returns-clause-a_leaf
returns-clause-a_leaf c =
    subst (λ (f : Face). f.a < leaf_count c.args.h.now) (sym c.face_at.ensures.corners)
    (corner_below c.args.h.now c.invariant.ensures c.args.f.0 c.requires).a_below

pub returns-clause-b_leaf : goal.returns-clause-b_leaf
returns-clause-b_leaf c =
    subst (λ (f : Face). f.b < leaf_count c.args.h.now) (sym c.face_at.ensures.corners)
    (corner_below c.args.h.now c.invariant.ensures c.args.f.0 c.requires).b_below

pub returns-clause-c_leaf : goal.returns-clause-c_leaf
returns-clause-c_leaf c =
    subst (λ (f : Face). f.c < leaf_count c.args.h.now) (sym c.face_at.ensures.corners)
    (corner_below c.args.h.now c.invariant.ensures c.args.f.0 c.requires).c_below
