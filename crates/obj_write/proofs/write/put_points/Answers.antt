use Rattle.std.proofs.Common.{◌<◌, ◌≤◌, ◌≡◌, ◌++◌, get_or, length, subst, ◌∙◌}
use Rattle.std.proofs.lemmas.Result.{err_from_is_err_and}
use Rattle.pm_io.specs.Bytes.{GainsPart, GainsThrough}
use Rattle.pm_io.proofs.PageLaws.{line_through, line_through_part, lines_through}
use Rattle.pm_io.proofs.PutLaws.{through_done, through_failed}
use Rattle.pm_base.specs.Canonical.{point_line}
use Rattle.obj_write.proofs.write.put_points.Goals as goal

pub loop-point-preserved : goal.loop-point-preserved
loop-point-preserved g c =
    let points = c.args.mesh.now.points.items in
    let i = c.loop-point.point-index in
    let point = c.point-item.result in
    let same = c.as_slice-point-items.ensures in
    let within = subst (λ l. i < length l) same c.loop-point-test.true in
    let item = subst (λ l. point ≡ get_or l i point) same c.point-item.is in
    record {
      items = same;
      text = line_through (point_line c.args.digits) points i point _ _ _ _ _ _ within item
          c.loop-point.invariant.text
          (subst (λ l. GainsThrough (g.K.Sink.got c.loop-point.out) (g.K.Sink.got c.add.new.out)
          c.loop-point.page c.add.new.self l) (c.as_slice.ensures ∙ c.put_point.ensures)
          c.in_ok-add.ensures.puts.ok);
      count = c.in_ok-add.ensures.puts.cause.same ∙ c.loop-point.invariant.count;
    }

pub returns-in_err-add : goal.returns-in_err-add
returns-in_err-add g c =
    let p = err_from_is_err_and c.from_residual.result c.from_residual.ensures.1 in
    let points = c.args.mesh.now.points.items in
    let i = c.loop-point.point-index in
    let point = c.point-item.result in
    let same = c.as_slice-point-items.ensures in
    let within = subst (λ l. i < length l) same c.loop-point-test.true in
    let item = subst (λ l. point ≡ get_or l i point) same c.point-item.is in
    let part = line_through_part (point_line c.args.digits) points i point _ _ _ _ _ within item
    c.loop-point.invariant.text
    (subst (λ l. GainsPart (g.K.Sink.got c.loop-point.out) (g.K.Sink.got c.add.new.out)
    (c.loop-point.page ++ l)) (c.as_slice.ensures ∙ c.put_point.ensures)
    c.in_err-add.ensures.puts.err) in
    rw (p.1, p.2) (through_failed g.K.Sink c.args.out.now c.loop-point.out _ _ _ _ _ part
    c.loop-point.invariant.count c.in_err-add.ensures.puts.cause)

pub returns : goal.returns
returns g c =
    let all = lines_through (point_line c.args.digits) c.args.mesh.now.points.items
    c.loop-point.point-index _ _ _ _
    (subst (λ l. length l ≤ c.loop-point.point-index) c.as_slice-point-items.ensures
    c.loop-point-test.false) c.loop-point.invariant.text in
    through_done g.K.Sink c.args.out.now _ _ _ _ _ all c.loop-point.invariant.count
