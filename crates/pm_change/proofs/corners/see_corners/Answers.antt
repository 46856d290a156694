use Rattle.std.proofs.Common.{◌≡◌, ◌<◌, ℕ, Bool, List, Option, true, set, length, sym, ap, ◌∙◌}
use Rattle.std.proofs.Common.{subst, arith}
use Rattle.pm_base.specs.declared.ids.Side.{Side}
use Rattle.pm_base.specs.Counts.{set_of}
use Rattle.pm_base.specs.Sides.{face_of}
use Rattle.pm_links.specs.Lists.{first_of, after}
use Rattle.pm_sets.proofs.FlagLaws.{set_here}
use Rattle.pm_beyond.proofs.Standing.{closed-front}
use Rattle.pm_front.specs.Corners.{listed}
use Rattle.pm_change.specs.Gathering.{Gathers, is_face_in}
use Rattle.pm_change.proofs.GatherLaws.{gathered_on, gathered_one}
use Rattle.pm_change.proofs.PutLaws.{corner_below, corner_at, corner_kept, put_face_in}
use Rattle.pm_change.proofs.Walking.{IsWalk, still, walk_goes, walk_shorter}
use Rattle.pm_change.proofs.corners.see_corners.Goals as goal

pub next_corner-at-requires-clause-kept : goal.next_corner-at-requires-clause-kept
next_corner-at-requires-clause-kept g c =
    let h = c.args.front.now.h in
    let G = set_of c.args.front.now.flags in
    let e = c.invariant.ensures in
    let l = listed c.args.front.now.corners c.args.node.0 in
    let walk = subst (λ (o : Option Side). IsWalk l (λ e. set_of c.loop-at.put (face_of e) ≡ true)
    o) c.in-Some.is c.loop-at.invariant.walk in
    corner_kept h e.valid.shape G (closed-front h G e.closed) c.args.front.now.corners e.corners
    c.args.node.0 c.in-Some.corner.0 walk.held

pub loop-at-smaller : goal.loop-at-smaller
loop-at-smaller g c =
    let h = c.args.front.now.h in
    let G = set_of c.args.front.now.flags in
    let e = c.invariant.ensures in
    let ls = c.args.front.now.corners in
    let v = c.args.node.0 in
    let corner = c.in-Some.corner in
    let l = listed ls v in
    let Done : ℕ → Type 0 = λ e. set_of c.loop-at.put (face_of e) ≡ true in
    let walk = subst (λ (o : Option Side). IsWalk l Done o) c.in-Some.is
    c.loop-at.invariant.walk in
    let at = corner_at h e.valid.shape G (closed-front h G e.closed) ls e.corners v corner.0
    walk.held in
    let next = c.next_corner-at.ensures ∙ ap (λ w. first_of (after corner.0 (listed ls w))) at in
    let less = walk_shorter l Done corner c.next_corner-at.result (e.corners.once v) walk.held
    next in
    subst (λ (o : Option Side). length (still c.next_corner-at.result l) < length (still o l))
    (sym c.in-Some.is) (omega arith)

pub loop-at-preserved : goal.loop-at-preserved
loop-at-preserved g c =
    let h = c.args.front.now.h in
    let G = set_of c.args.front.now.flags in
    let e = c.invariant.ensures in
    let now = closed-front h G e.closed in
    let ls = c.args.front.now.corners in
    let v = c.args.node.0 in
    let corner = c.in-Some.corner in
    let l = listed ls v in
    let i = c.loop-at.invariant in
    let Done : ℕ → Type 0 = λ e. set_of c.loop-at.put (face_of e) ≡ true in
    let Then : ℕ → Type 0 = λ e. set_of c.insert.new.self (face_of e) ≡ true in
    let walk = subst (λ (o : Option Side). IsWalk l Done o) c.in-Some.is i.walk in
    let held = walk.held in
    let at = corner_at h e.valid.shape G now ls e.corners v corner.0 held in
    let below = corner_below h e.valid.shape G now ls e.corners v corner.0 held in
    let next = c.next_corner-at.ensures ∙ ap (λ w. first_of (after corner.0 (listed ls w))) at in
    let less = walk_shorter l Done corner c.next_corner-at.result (e.corners.once v) held next in
    let same = ap (λ (o : Option Side). length (still o l)) c.in-Some.is in
    let face = c.face.result.0 in
    let is = c.face.ensures in
    let len = i.got.len in
    let room = c.requires.len in
    let low : face < length c.loop-at.put = omega arith in
    let put : c.insert.new.self ≡ set c.loop-at.put face true = c.insert.ensures in
    let one = subst (λ (m : List Bool). Gathers (is_face_in l) c.loop-at.put m) (sym put)
    (gathered_one (is_face_in l) c.loop-at.put face low (put_face_in l corner.0 face held is))
    in
    let done : Then corner.0 = subst (λ (m : List Bool). set_of m (face_of corner.0) ≡ true)
    (sym put) (subst (λ j. set_of (set c.loop-at.put face true) j ≡ true) is
    (set_here c.loop-at.put face low true)) in
    let tick = c.tick.ensures in
    let cost = i.cost in
    record {
      got = gathered_on (is_face_in l) c.args.put.now c.loop-at.put c.insert.new.self i.got one;
      walk = walk_goes l Done Then corner c.next_corner-at.result (e.corners.once v) walk next
          (λ j d. one.stay (face_of j) d) done;
      cost = omega arith;
    }
