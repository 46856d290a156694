use Rattle.std.proofs.Common.{◌≡◌, ◌⊎◌, false, ◌&&◌, sym, subst, ◌∙◌}
use Rattle.pm_forest.specs.declared.parts.UnitKind.TheVariants as kinds
use Rattle.pm_forest.specs.Faces.{faces_of}
use Rattle.pm_forest.specs.Rules.{face_inputs}
use Rattle.pm_forest.specs.Tables.{grown}
use Rattle.pm_forest.specs.Shaping.{expects, IsShaping}
use Rattle.pm_forest.proofs.NextUnit.{expects_face}
use Rattle.pm_forest.proofs.FacesTaken.{face_added, record_added}
use Rattle.pm_forest.proofs.shaper.Shaper.add_face.Goals.{then-self, else-self}
use Rattle.pm_forest.proofs.shaper.Shaper.add_face.Goals as goal

pub invariant_of-self : goal.invariant_of-self
invariant_of-self c =
    let s = c.self.inside in
    let next = subst (λ v. (expects v ≡ kinds.LeftFace) ⊎ (expects v ≡ kinds.RightFace))
    (sym c.self.view_is) c.requires in
    let there = expects_face s.forest.counts s.forest.h s.forest.coming s.left_due s.right_due
    next in
    let due : c.if-self.self ≡ s.right_due && s.left_due = elim c.if-self.branch [
      | then-self w ↦ (rw w.if-self.true w.self-is)
      | else-self w ↦ (rw w.if-self.false (w.self-is ∙ w.if-self.false))
    ] in
    subst (λ b. IsShaping c.settle.new.self false b s.vertices_seen.items c.mark.new.flags.items)
    (sym c.if-not-self.true)
    (record_added s.forest c.add_face.new.self c.settle.new.self s.left_due s.right_due
    s.vertices_seen.items s.faces_seen.items
    c.mark.new.flags.items c.args.f c.args.first c.args.second c.neighbour.result
    c.neighbour-2.result
    c.self.invariant there (c.new_face_fault.ensures.exact ∙ c.in_default.is) c.neighbour.ensures
    c.neighbour-2.ensures c.add_face.ensures c.settle.ensures
    (c.mark.ensures.marked (face_inputs (faces_of (grown s.forest))) c.self.invariant.faces_marked)
    c.mark.ensures.len (sym due ∙ c.if-not-self.true))

pub invariant_of-self-else-not-self : goal.invariant_of-self-else-not-self
invariant_of-self-else-not-self c =
    let s = c.self.inside in
    let next = subst (λ v. (expects v ≡ kinds.LeftFace) ⊎ (expects v ≡ kinds.RightFace))
    (sym c.self.view_is) c.requires in
    let there = expects_face s.forest.counts s.forest.h s.forest.coming s.left_due s.right_due
    next in
    let due : c.if-self.self ≡ s.right_due && s.left_due = elim c.if-self.branch [
      | then-self w ↦ (rw w.if-self.true w.self-is)
      | else-self w ↦ (rw w.if-self.false (w.self-is ∙ w.if-self.false))
    ] in
    subst (λ b. IsShaping c.add_face.new.self false b s.vertices_seen.items c.mark.new.flags.items)
    (sym c.if-not-self.false)
    (face_added s.forest c.add_face.new.self s.left_due s.right_due s.vertices_seen.items
    s.faces_seen.items
    c.mark.new.flags.items c.args.f c.args.first c.args.second c.neighbour.result
    c.neighbour-2.result
    c.self.invariant there (c.new_face_fault.ensures.exact ∙ c.in_default.is) c.neighbour.ensures
    c.neighbour-2.ensures c.add_face.ensures
    (c.mark.ensures.marked (face_inputs (faces_of (grown s.forest))) c.self.invariant.faces_marked)
    c.mark.ensures.len (sym due ∙ c.if-not-self.false))
