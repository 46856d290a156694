use Rattle.std.proofs.Common.{◌<◌, ◌≤◌, false, length, refl, sym, ap, ◌∙◌, arith, length-set}
use Rattle.std.proofs.lemmas.Result.{err_from_is_err_and}
use Rattle.pm_base.specs.Sides.{face_of, next}
use Rattle.pm_io.proofs.PutLaws.{through_done, through_failed}
use Rattle.pm_base.specs.Counts.{set_of}
use Rattle.pm_forest.specs.Faces.{face_count}
use Rattle.pm_forest.proofs.Flags.{set_of-clear}
use Rattle.pm_strips.specs.Shown.{beyond_in, node_of_corner, node_text}
use Rattle.pm_strips.proofs.ShownLaws.{there-parts}
use Rattle.pm_strips.proofs.SideLaws.{beyond_none, beyond_some}
use Rattle.pm_strips.proofs.Entering.{part_as, through_as, entering_none, entering_more}
use Rattle.pm_strips.proofs.Entering.{entering_cut, entering_ends, entering_past}
use Rattle.pm_strips.proofs.strip.put_entered.Goals as goal

pub returns-in_default-clause-puts : goal.returns-in_default-clause-puts
returns-in_default-clause-puts g c =
    let h = c.args.front.now.h in
    let T = set_of c.args.front.now.flags in
    let none = beyond_none (beyond_in h T) c.deref.result.now c.loop-turn.free.items
    c.loop-turn.exit.0 c.free_beyond.result c.deref.ensures.value c.free_beyond.ensures.value
    c.in_default.is in
    let all = (entering_ends (beyond_in h T) (node_of_corner h T) (face_count h) c.loop-turn._turn
    (set_of c.args.free.now.items) c.args.first_exit.0 (set_of c.loop-turn.free.items)
    c.loop-turn.is_odd c.loop-turn.exit.0
    _ _ _ _ c.loop-turn.invariant.so_far none).0 in
    through_done g.K.Sink c.args.out.now _ _ _ _ _ all c.loop-turn.invariant.count

pub returns-clause-puts : goal.returns-clause-puts
returns-clause-puts g c =
    let h = c.args.front.now.h in
    let T = set_of c.args.front.now.flags in
    let past : face_count h ≤ c.loop-turn._turn =
    omega (arith, c.loop-turn-test.false, c.len-turn-end.ensures, c.requires.len) in
    let all = (entering_past (beyond_in h T) (node_of_corner h T) (face_count h) c.loop-turn._turn
    (set_of c.args.free.now.items) c.args.first_exit.0 (set_of c.loop-turn.free.items)
    c.loop-turn.is_odd c.loop-turn.exit.0
    _ _ _ _ c.loop-turn.invariant.so_far past).0 in
    through_done g.K.Sink c.args.out.now _ _ _ _ _ all c.loop-turn.invariant.count

pub returns-in_err-put_node-clause-puts : goal.returns-in_err-put_node-clause-puts
returns-in_err-put_node-clause-puts g c =
    let p = err_from_is_err_and c.from_residual.result c.from_residual.ensures.1 in
    let h = c.args.front.now.h in
    let T = set_of c.args.front.now.flags in
    let low : c.loop-turn._turn < face_count h =
    omega (arith, c.loop-turn-test.true, c.len-turn-end.ensures, c.requires.len) in
    let some = beyond_some (beyond_in h T) c.deref.result.now c.loop-turn.free.items
    c.loop-turn.exit.0 c.free_beyond.result c.in-Some.side c.deref.ensures.value
    c.free_beyond.ensures.value c.in-Some.is in
    let third = c.next-third.ensures.value ∙ ap next c.next-second.ensures.value in
    let part = entering_cut (beyond_in h T) (node_of_corner h T) (face_count h) c.loop-turn._turn
    (set_of c.args.free.now.items) c.args.first_exit.0 (set_of c.loop-turn.free.items)
    c.loop-turn.is_odd c.loop-turn.exit.0
    c.in-Some.side.0 _ _ _ _ _ low some c.loop-turn.invariant.so_far
    (part_as _ _ _ _ _ (ap (λ v. node_text (node_of_corner h T v)) (sym third))
    c.in_err-put_node.ensures.err) in
    rw (p.1, p.2)
    (through_failed g.K.Sink c.args.out.now c.loop-turn.out _ _ _ _ _ part
    c.loop-turn.invariant.count c.in_err-put_node.ensures.cause)

pub loop-turn-init : goal.loop-turn-init
loop-turn-init g c =
    let h = c.args.front.now.h in
    let T = set_of c.args.front.now.flags in
    record {
      so_far = entering_none (beyond_in h T) (node_of_corner h T) (face_count h)
          (set_of c.args.free.now.items) c.args.first_exit.0 (g.K.Sink.got c.args.out.now)
          c.args.page.now;
      there = c.requires.there;
      len = refl;
      count = refl;
    }

pub loop-turn-preserved : goal.loop-turn-preserved
loop-turn-preserved g c =
    let h = c.args.front.now.h in
    let T = set_of c.args.front.now.flags in
    let low : c.loop-turn._turn < face_count h =
    omega (arith, c.loop-turn-test.true, c.len-turn-end.ensures, c.requires.len) in
    let some = beyond_some (beyond_in h T) c.deref.result.now c.loop-turn.free.items
    c.loop-turn.exit.0 c.free_beyond.result c.in-Some.side c.deref.ensures.value
    c.free_beyond.ensures.value c.in-Some.is in
    let third = c.next-third.ensures.value ∙ ap next c.next-second.ensures.value in
    let face : c.face.result.0 < length c.loop-turn.free.items =
    omega (
      arith,
      c.face.ensures,
      (there-parts h T (face_of c.in-Some.side.0) c.in-Some.ensures.there).0,
      c.loop-turn.invariant.len,
      c.requires.len,
    ) in
    record {
      so_far = rw (
        set_of-clear c.loop-turn.free.items c.face.result.0 face,
        c.face.ensures,
        c.exit_of-exit.ensures.value,
      )
          (entering_more (beyond_in h T) (node_of_corner h T) (face_count h) c.loop-turn._turn
          (set_of c.args.free.now.items) c.args.first_exit.0 (set_of c.loop-turn.free.items)
          c.loop-turn.is_odd c.loop-turn.exit.0
          c.in-Some.side.0 _ _ _ _ _ _ low some c.loop-turn.invariant.so_far
          (through_as _ _ _ _ _ _ (ap (λ v. node_text (node_of_corner h T v)) (sym third))
          c.in_ok-put_node.ensures.ok));
      there = c.exit_of-exit.ensures.there;
      len = length-set c.loop-turn.free.items c.face.result.0 false ∙ c.loop-turn.invariant.len;
      count = c.in_ok-put_node.ensures.cause.same ∙ c.loop-turn.invariant.count;
    }
