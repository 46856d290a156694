use Rattle.std.proofs.Common.{◌≡◌, ◌<◌, suc, true, length, inl, inr, sym, subst, arith}
use Rattle.std.proofs.lemmas.Bool.{cases_lt}
use Rattle.pm_base.specs.Counts.{set_of}
use Rattle.pm_forest.specs.Forest.{record_count}
use Rattle.pm_forest.proofs.FaceNumbers.{first_face-mono, revealed-parts}
use Rattle.pm_change.specs.Changes.{is_gone_face}
use Rattle.pm_change.proofs.FaceLaws.{face_range}
use Rattle.pm_change.proofs.GatherLaws.{gathered_on, gathered, is_gathered}
use Rattle.pm_change.proofs.PartLaws.{faces_most}
use Rattle.pm_change.proofs.gathering.see_faces.Goals as goal

pub overflow_add-face-end : goal.overflow_add-face-end
overflow_add-face-end g c =
    let h = c.args.front.now.h in
    let range = face_range h c.hierarchy-h.result.now c.args.k c.first_face-first.result
    c.new_faces.result c.record_at.result.now c.hierarchy-h.ensures
    c.first_face-first.ensures.value c.record_at.ensures c.new_faces.ensures in
    let end = range.1 in
    let there = first_face-mono h (suc c.args.k) (record_count h) c.requires.record in
    let most = faces_most h c.invariant.ensures.valid.shape in
    omega arith

pub is_gone_face-requires-clause-face : goal.is_gone_face-requires-clause-face
is_gone_face-requires-clause-face g c =
    let h = c.args.front.now.h in
    let range = face_range h c.hierarchy-h.result.now c.args.k c.first_face-first.result
    c.new_faces.result c.record_at.result.now c.hierarchy-h.ensures
    c.first_face-first.ensures.value c.record_at.ensures c.new_faces.ensures in
    let end = range.1 in
    let there = first_face-mono h (suc c.args.k) (record_count h) c.requires.record in
    let less = c.loop-face-test.true in
    omega arith

pub gather-requires : goal.gather-requires
gather-requires g c =
    let h = c.args.front.now.h in
    let range = face_range h c.hierarchy-h.result.now c.args.k c.first_face-first.result
    c.new_faces.result c.record_at.result.now c.hierarchy-h.ensures
    c.first_face-first.ensures.value c.record_at.ensures c.new_faces.ensures in
    let end = range.1 in
    let there = first_face-mono h (suc c.args.k) (record_count h) c.requires.record in
    let less = c.loop-face-test.true in
    let len = c.loop-face.invariant.got.len in
    let room = c.requires.len in
    omega arith

pub loop-face-preserved : goal.loop-face-preserved
loop-face-preserved g c =
    let h = c.args.front.now.h in
    let passes = is_gone_face h (set_of c.args.marks.now) (set_of c.args.front.now.flags) in
    let range = face_range h c.hierarchy-h.result.now c.args.k c.first_face-first.result
    c.new_faces.result c.record_at.result.now c.hierarchy-h.ensures
    c.first_face-first.ensures.value c.record_at.ensures c.new_faces.ensures in
    let end = range.1 in
    let there = first_face-mono h (suc c.args.k) (record_count h) c.requires.record in
    let less = c.loop-face-test.true in
    let i = c.loop-face.invariant in
    let len = i.got.len in
    let room = c.requires.len in
    let face = c.loop-face.face in
    let low : face < length c.loop-face.gone = omega arith in
    let one = gathered passes c.loop-face.gone c.gather.new.set face c.is_gone_face.result low
    c.is_gone_face.ensures c.gather.ensures in
    let in_ = is_gathered passes c.loop-face.gone c.gather.new.set face c.is_gone_face.result low
    c.is_gone_face.ensures c.gather.ensures in
    let tick = c.tick.ensures in
    let cost = i.cost in
    record {
      got = gathered_on passes c.args.gone.now c.loop-face.gone c.gather.new.set i.got one;
      seen = λ f a b y. elim (cases_lt f face) [
        | inl l ↦ one.stay f (i.seen f a l y)
        | inr l ↦ (let is : f ≡ face = omega arith in subst (λ j. set_of c.gather.new.set j ≡ true)
            (sym is) (in_ (subst (λ j. passes j ≡ true) is y)))
      ];
      cost = omega arith;
    }

pub returns-clause-seen : goal.returns-clause-seen
returns-clause-seen g c = λ f l is y.
    let h = c.args.front.now.h in
    let range = face_range h c.hierarchy-h.result.now c.args.k c.first_face-first.result
    c.new_faces.result c.record_at.result.now c.hierarchy-h.ensures
    c.first_face-first.ensures.value c.record_at.ensures c.new_faces.ensures in
    let begin = range.0 in
    let end = range.1 in
    let parts = revealed-parts h f c.args.k l is in
    let low = parts.1 in
    let high = parts.2 in
    let past = c.loop-face-test.false in
    c.loop-face.invariant.seen f (omega arith) (omega arith) y
