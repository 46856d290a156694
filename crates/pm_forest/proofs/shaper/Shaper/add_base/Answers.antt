use Rattle.std.proofs.Common.{◌≡◌, sym, subst, ◌∙◌}
use Rattle.pm_forest.specs.declared.parts.UnitKind.TheVariants as kinds
use Rattle.pm_forest.specs.Marks.{AreMarked}
use Rattle.pm_forest.specs.Rules.{face_inputs}
use Rattle.pm_forest.specs.Shaping.{expects}
use Rattle.pm_forest.proofs.NextUnit.{expects_base}
use Rattle.pm_forest.proofs.ShapingLaws.{bases_marked, base_added}
use Rattle.pm_forest.proofs.shaper.Shaper.add_base.Goals as goal

pub base_fault-requires-clause-marked : goal.base_fault-requires-clause-marked
base_fault-requires-clause-marked c =
    let s = c.self.inside in
    let next = subst (λ v. expects v ≡ kinds.Base) (sym c.self.view_is) c.requires in
    let at = expects_base s.forest.counts s.forest.h s.forest.coming s.left_due s.right_due next in
    subst (λ l. AreMarked l (face_inputs s.forest.h.bases)) (sym c.deref.ensures.value)
    (bases_marked s.forest s.left_due s.right_due s.vertices_seen.items s.faces_seen.items
    c.self.invariant at.0 at.2)

pub invariant_of-self : goal.invariant_of-self
invariant_of-self c =
    let s = c.self.inside in
    let next = subst (λ v. expects v ≡ kinds.Base) (sym c.self.view_is) c.requires in
    let at = expects_base s.forest.counts s.forest.h s.forest.coming s.left_due s.right_due next in
    let marked =
    bases_marked s.forest s.left_due s.right_due s.vertices_seen.items s.faces_seen.items
    c.self.invariant at.0 at.2 in
    base_added s.forest c.add_base.new.self s.left_due s.right_due s.vertices_seen.items
    s.faces_seen.items c.mark.new.flags.items c.args.f
    c.self.invariant at.0 at.1 at.2 (c.base_fault.ensures.exact ∙ c.in_default.is)
    c.add_base.ensures
    (c.mark.ensures.marked (face_inputs s.forest.h.bases) marked) c.mark.ensures.len
