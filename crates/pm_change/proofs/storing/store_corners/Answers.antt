use Rattle.std.proofs.Common.{◌≡◌, List, ℕ, ◌+◌, ◌*◌, length, take, drop, ap, sym, ◌∙◌, subst}
use Rattle.std.proofs.Common.{arith}
use Rattle.std.specs.List.{flat_map}
use Rattle.pm_base.specs.Counts.{set_of}
use Rattle.pm_sets.proofs.FlagLaws.{in_below}
use Rattle.pm_arrays.specs.Arrays.{face_nodes}
use Rattle.pm_change.proofs.PartLaws.{faces_most}
use Rattle.pm_arrays.proofs.StoreLaws.{further_behind}
use Rattle.pm_change.proofs.StoreLaws.{one_more, has_room, threes_more, all_numbers}
use Rattle.pm_change.proofs.storing.store_corners.Goals as goal

pub overflow_add-from : goal.overflow_add-from
overflow_add-from c =
    let low = in_below c.args.faces.now c.in-Some.face c.in-Some.ensures.some.there in
    let most = faces_most c.args.front.now.h c.invariant.ensures.valid.shape in
    omega (arith, c.requires.there)

pub corners_of-requires-clause-there : goal.corners_of-requires-clause-there
corners_of-requires-clause-there c =
    let low = in_below c.args.faces.now c.in-Some.face c.in-Some.ensures.some.there in
    omega (arith, c.requires.there)

pub store_three-requires : goal.store_three-requires
store_three-requires c =
    let i = c.loop-face.invariant in
    let room = has_room c.args.faces.now c.loop-face.from c.in-Some.face
    c.in-Some.ensures.some in
    omega (arith, i.counted, i.len, c.requires.room)

pub loop-face-preserved : goal.loop-face-preserved
loop-face-preserved c =
    let flags = c.args.faces.now in
    let i = c.loop-face.invariant in
    let face = c.in-Some.face in
    let first = c.in-Some.ensures.some in
    let low = in_below flags face first.there in
    record {
      within = omega arith;
      counted = ap (λ n. n + 1) i.counted ∙ sym (one_more flags c.loop-face.from face first);
      stored = threes_more flags c.loop-face.from face first
          (face_nodes c.args.front.now.h (set_of c.args.front.now.flags)) c.loop-face.count
          c.loop-face.to c.store_three.new.to _ c.corners_of.ensures i.stored
          c.store_three.ensures.stored;
      behind = c.store_three.ensures.behind
          ∙ further_behind (3 * c.loop-face.count) (3 * (c.loop-face.count + 1)) c.loop-face.to
          c.args.to.now (omega arith) i.behind;
      len = c.store_three.ensures.len ∙ i.len;
    }

pub returns-clause-stored : goal.returns-clause-stored
returns-clause-stored c =
    let i = c.loop-face.invariant in
    let all = all_numbers c.args.faces.now c.loop-face.from i.within
    c.in_default.ensures.none in
    let nodes = face_nodes c.args.front.now.h (set_of c.args.front.now.flags) in
    ap (λ n. take (3 * n) c.loop-face.to) (ap (λ (l : List ℕ). length l) all ∙ sym i.counted)
    ∙ i.stored ∙ sym (ap (λ (l : List ℕ). flat_map nodes l) all)

pub returns-clause-behind : goal.returns-clause-behind
returns-clause-behind c =
    let i = c.loop-face.invariant in
    let all = all_numbers c.args.faces.now c.loop-face.from i.within
    c.in_default.ensures.none in
    subst (λ n. drop (3 * n) c.loop-face.to ≡ drop (3 * n) c.args.to.now)
    (i.counted ∙ sym (ap (λ (l : List ℕ). length l) all)) i.behind
