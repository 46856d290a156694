use Rattle.std.proofs.Common.{◌<◌, ◌≤◌, ◌++◌, get_or, length, subst, ◌∙◌, ap}
use Rattle.std.proofs.lemmas.List.{get_or_default}
use Rattle.std.proofs.lemmas.Result.{err_from_is_err_and}
use Rattle.pm_io.specs.Bytes.{GainsPart, GainsThrough}
use Rattle.pm_io.proofs.PageLaws.{line_through, line_through_part, lines_through}
use Rattle.pm_io.proofs.PutLaws.{through_done, through_failed}
use Rattle.pm_base.specs.declared.mesh.Corners.{Corners}
use Rattle.pm_base.specs.Canonical.{corner_line}
use Rattle.obj_write.proofs.write.put_faces.Goals as goal

pub loop-corners-preserved : goal.loop-corners-preserved
loop-corners-preserved g c =
    let faces = c.args.mesh.now.faces.items in
    let i = c.loop-corners.corners-index in
    let same = c.as_slice-corners-items.ensures in
    let within = subst (λ l. i < length l) same c.loop-corners-test.true in
    let none : Corners = record { a = 0; b = 0; c = 0 } in
    let corners = get_or faces i none in
    let line = c.as_slice.ensures ∙ c.put_corners.ensures
    ∙ ap (λ l. corner_line (get_or l i none)) same in
    record {
      items = same;
      text = line_through corner_line faces i corners _ _ _ _ _ _ within
          (get_or_default faces i none corners within) c.loop-corners.invariant.text
          (subst (λ l. GainsThrough (g.K.Sink.got c.loop-corners.out) (g.K.Sink.got c.add.new.out)
          c.loop-corners.page c.add.new.self l) line c.in_ok-add.ensures.puts.ok);
      count = c.in_ok-add.ensures.puts.cause.same ∙ c.loop-corners.invariant.count;
    }

pub returns-in_err-add : goal.returns-in_err-add
returns-in_err-add g c =
    let p = err_from_is_err_and c.from_residual.result c.from_residual.ensures.1 in
    let faces = c.args.mesh.now.faces.items in
    let i = c.loop-corners.corners-index in
    let same = c.as_slice-corners-items.ensures in
    let within = subst (λ l. i < length l) same c.loop-corners-test.true in
    let none : Corners = record { a = 0; b = 0; c = 0 } in
    let corners = get_or faces i none in
    let line = c.as_slice.ensures ∙ c.put_corners.ensures
    ∙ ap (λ l. corner_line (get_or l i none)) same in
    let part = line_through_part corner_line faces i corners _ _ _ _ _ within
    (get_or_default faces i none corners within) c.loop-corners.invariant.text
    (subst (λ l. GainsPart (g.K.Sink.got c.loop-corners.out) (g.K.Sink.got c.add.new.out)
    (c.loop-corners.page ++ l)) line c.in_err-add.ensures.puts.err) in
    rw (p.1, p.2) (through_failed g.K.Sink c.args.out.now c.loop-corners.out _ _ _ _ _ part
    c.loop-corners.invariant.count c.in_err-add.ensures.puts.cause)

pub returns : goal.returns
returns g c =
    let all = lines_through corner_line c.args.mesh.now.faces.items c.loop-corners.corners-index _ _
    _ _
    (subst (λ l. length l ≤ c.loop-corners.corners-index) c.as_slice-corners-items.ensures
    c.loop-corners-test.false) c.loop-corners.invariant.text in
    through_done g.K.Sink c.args.out.now _ _ _ _ _ all c.loop-corners.invariant.count
