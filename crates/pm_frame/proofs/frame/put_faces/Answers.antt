use Rattle.std.proofs.Common.{◌∙◌, arith}
use Rattle.std.proofs.lemmas.Result.{err_from_is_err_and}
use Rattle.pm_forest.specs.Faces.{face_count}
use Rattle.pm_base.specs.Counts.{set_of}
use Rattle.pm_forest.proofs.FaceLimits.{face_count-most}
use Rattle.pm_forest.specs.Kept.{is_kept}
use Rattle.pm_frame.specs.Frame.{shown_face}
use Rattle.pm_io.proofs.PutLaws.{through_failed, through_done}
use Rattle.pm_frame.proofs.Lines.{line_next, line_cut, line_gap}
use Rattle.pm_frame.proofs.frame.put_faces.Goals as goal

pub overflow_add-from : goal.overflow_add-from
overflow_add-from g c =
    omega (
      arith,
      c.in-Some.ensures.below,
      face_count-most c.args.front.now.h
          c.invariant.ensures.valid.shape,
    )

pub put_shown-requires-clause-kept : goal.put_shown-requires-clause-kept
put_shown-requires-clause-kept g c = c.in-Some.ensures.some.passes

pub returns-in_err-add : goal.returns-in_err-add
returns-in_err-add g c =
    let p = err_from_is_err_and c.from_residual.result c.from_residual.ensures.1 in
    let h = c.args.front.now.h in
    let shown = is_kept h (set_of c.args.front.now.flags) in
    let line = shown_face h (set_of c.args.front.now.flags) in
    let n = c.in-Some.face.0 in
    let least = c.in-Some.ensures.some in
    let so_far =
    line_gap shown line c.loop-face.from n _ _ _ _ least.from least.none
    c.loop-face.invariant.text in
    let part = line_cut shown line n (face_count h) _ _ _ _ _ _ c.in-Some.ensures.below least.passes
    (c.as_slice.ensures ∙ c.put_shown.ensures) so_far c.in_err-add.ensures.puts.err in
    rw (p.1, p.2)
    (through_failed g.K.Sink c.args.out.now c.loop-face.out _ _ _ _ _ part
    c.loop-face.invariant.count c.in_err-add.ensures.puts.cause)

pub loop-face-preserved : goal.loop-face-preserved
loop-face-preserved g c =
    let h = c.args.front.now.h in
    let shown = is_kept h (set_of c.args.front.now.flags) in
    let line = shown_face h (set_of c.args.front.now.flags) in
    let n = c.in-Some.face.0 in
    let least = c.in-Some.ensures.some in
    let so_far =
    line_gap shown line c.loop-face.from n _ _ _ _ least.from least.none
    c.loop-face.invariant.text in
    record {
      within = omega (arith, c.in-Some.ensures.below);
      text = line_next shown line n _ _ _ _ _ _ _ least.passes (c.as_slice.ensures
          ∙ c.put_shown.ensures) so_far c.in_ok-add.ensures.puts.ok;
      count = c.in_ok-add.ensures.puts.cause.same ∙ c.loop-face.invariant.count;
    }

pub returns : goal.returns
returns g c =
    let h = c.args.front.now.h in
    let shown = is_kept h (set_of c.args.front.now.flags) in
    let line = shown_face h (set_of c.args.front.now.flags) in
    let i = c.loop-face.invariant in
    through_done g.K.Sink c.args.out.now c.loop-face.out c.args.page.now c.loop-face.page _ _
    (line_gap shown line c.loop-face.from (face_count h) _ _ _ _ i.within c.in_default.ensures.none
    i.text) i.count
