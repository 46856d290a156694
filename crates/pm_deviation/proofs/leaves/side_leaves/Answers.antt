use Rattle.std.proofs.Common.{ap, sym, ◌∙◌, arith}
use Rattle.pm_forest.specs.declared.parts.Face.{Face}
use Rattle.pm_deviation.proofs.SideLaws.{ends_a, ends_b, ends_c}
use Rattle.pm_deviation.proofs.leaves.side_leaves.Goals as goal

pub returns-in-0-clause-from : goal.returns-in-0-clause-from
returns-in-0-clause-from c =
    ap (λ (f : Face). f.a) c.face_leaves-face.ensures.corners
    ∙ sym (ends_a c.args.h.now c.args.side.0 (omega (arith, c.in-0.is))).0

pub returns-in-0-clause-to : goal.returns-in-0-clause-to
returns-in-0-clause-to c =
    ap (λ (f : Face). f.b) c.face_leaves-face.ensures.corners
    ∙ sym (ends_a c.args.h.now c.args.side.0 (omega (arith, c.in-0.is))).1

pub returns-in-1-clause-from : goal.returns-in-1-clause-from
returns-in-1-clause-from c =
    ap (λ (f : Face). f.b) c.face_leaves-face.ensures.corners
    ∙ sym (ends_b c.args.h.now c.args.side.0 (omega (arith, c.in-1.is))).0

pub returns-in-1-clause-to : goal.returns-in-1-clause-to
returns-in-1-clause-to c =
    ap (λ (f : Face). f.c) c.face_leaves-face.ensures.corners
    ∙ sym (ends_b c.args.h.now c.args.side.0 (omega (arith, c.in-1.is))).1

pub returns-in_default-clause-from : goal.returns-in_default-clause-from
returns-in_default-clause-from c =
    ap (λ (f : Face). f.c) c.face_leaves-face.ensures.corners
    ∙ sym (ends_c c.args.h.now c.args.side.0 (omega (arith, c.in_default))).0

pub returns-in_default-clause-to : goal.returns-in_default-clause-to
returns-in_default-clause-to c =
    ap (λ (f : Face). f.a) c.face_leaves-face.ensures.corners
    ∙ sym (ends_c c.args.h.now c.args.side.0 (omega (arith, c.in_default))).1
