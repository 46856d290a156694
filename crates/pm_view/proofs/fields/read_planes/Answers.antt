use Rattle.std.proofs.Common.{◌≡◌, ◌+◌, List, true, subst, sym, arith}
use Rattle.std.specs.List.{list_all}
use Rattle.pm_view.specs.declared.plane.Plane.{Plane}
use Rattle.pm_view.specs.Views.{is_plane}
use Rattle.pm_view.specs.Fields.{fields_after}
use Rattle.pm_view.proofs.FieldLaws.{AreRead, read_more, read_bad, read_over, read_all, all_planes}
use Rattle.pm_view.proofs.fields.read_planes.Goals as goal

pub returns-in-None-clause-value : goal.returns-in-None-clause-value
returns-in-None-clause-value c =
    let all = fields_after c.args.fields.now in
    let planes = c.loop-plane.planes.items in
    let k = c.loop-plane._plane in
    read_all all planes k
    (subst (AreRead all planes k) c.in-None.ensures c.loop-plane.invariant.read)

pub returns-in_err-plane-in-Some-clause-value : goal.returns-in_err-plane-in-Some-clause-value
returns-in_err-plane-in-Some-clause-value c =
    let all = fields_after c.args.fields.now in
    let planes = c.loop-plane.planes.items in
    let k = c.loop-plane._plane in
    let was = subst (AreRead all planes k) c.in-Some.ensures c.loop-plane.invariant.read in
    let none = read_bad all planes k c.in-Some.text.now c.loop-plane-test.true was
    c.in_err-plane-in-Some.ensures.value in
    rw c.from_residual.ensures none

pub loop-plane-preserved : goal.loop-plane-preserved
loop-plane-preserved c =
    let all = fields_after c.args.fields.now in
    let planes = c.loop-plane.planes.items in
    let k = c.loop-plane._plane in
    let was = subst (AreRead all planes k) c.in-Some.ensures c.loop-plane.invariant.read in
    let len = c.loop-plane.invariant.len in
    let more = read_more all planes k c.in-Some.text.now c.in_ok-plane-in-Some.plane
    (fields_after c.in_ok-plane-in-Some.left.now) c.loop-plane-test.true was
    c.in_ok-plane-in-Some.ensures.value in
    record {
      len = omega (arith, c.push.ensures.len);
      read = subst
          (λ (ps : List Plane). AreRead all ps (k + 1)
          (fields_after c.in_ok-plane-in-Some.left.now)) (sym c.push.ensures.items) more;
      in_range = subst (λ (ps : List Plane). list_all is_plane ps ≡ true) (sym c.push.ensures.items)
          (all_planes planes c.in_ok-plane-in-Some.plane c.loop-plane.invariant.in_range
          c.in_ok-plane-in-Some.ensures.in_range);
    }

pub returns-in-None-after_space-clause-value : goal.returns-in-None-after_space-clause-value
returns-in-None-after_space-clause-value c =
    let all = fields_after c.args.fields.now in
    let planes = c.loop-plane.planes.items in
    let k = c.loop-plane._plane in
    read_all all planes k
    (subst (AreRead all planes k) c.in-None-after_space.ensures c.loop-plane.invariant.read)

pub returns-in-Some-after_space-clause-value : goal.returns-in-Some-after_space-clause-value
returns-in-Some-after_space-clause-value c =
    let all = fields_after c.args.fields.now in
    let planes = c.loop-plane.planes.items in
    let k = c.loop-plane._plane in
    read_over all planes k c.in-Some-after_space.field-0.now
    (omega (arith, c.loop-plane-test.false))
    (subst (AreRead all planes k) c.in-Some-after_space.ensures c.loop-plane.invariant.read)
