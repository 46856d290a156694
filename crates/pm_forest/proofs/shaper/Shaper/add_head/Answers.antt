use Rattle.std.proofs.Common.{◌≡◌, ◌++◌, [], ◌∷◌, length, sym, ap, subst, ◌∙◌, arith}
use Rattle.pm_forest.specs.declared.parts.UnitKind.TheVariants as kinds
use Rattle.pm_forest.specs.Marks.{AreMarked}
use Rattle.pm_forest.specs.Rules.{node_inputs}
use Rattle.pm_forest.specs.Shaping.{expects}
use Rattle.pm_forest.proofs.NextUnit.{expects_head}
use Rattle.pm_forest.proofs.ShapingLaws.{leaves_complete}
use Rattle.pm_forest.proofs.HeadShaping.{head_added}
use Rattle.pm_forest.proofs.shaper.Shaper.add_head.Goals as goal

pub next_record-requires-clause-flags : goal.next_record-requires-clause-flags
next_record-requires-clause-flags c =
    let s = c.self.inside in
    let next = subst (λ v. expects v ≡ kinds.Head) (sym c.self.view_is) c.requires in
    let at = expects_head s.forest.counts s.forest.h s.forest.coming s.left_due s.right_due next in
    let leaves =
    leaves_complete s.forest s.left_due s.right_due s.vertices_seen.items s.faces_seen.items
    c.self.invariant at.1 in
    ap length c.deref.ensures.value ∙ c.self.invariant.node_flags ∙ sym leaves

pub invariant_of-self : goal.invariant_of-self
invariant_of-self c =
    let s = c.self.inside in
    let d = c.args.head in
    let next = subst (λ v. expects v ≡ kinds.Head) (sym c.self.view_is) c.requires in
    let at = expects_head s.forest.counts s.forest.h s.forest.coming s.left_due s.right_due next in
    let nodes = rw at.0 at c.self.invariant.nodes_marked in
    let marked =
    c.mark-in-Ok.ensures.marked _ (c.mark.ensures.marked (node_inputs s.forest.h) nodes) in
    head_added s.forest c.add_record.new.self s.left_due s.right_due s.vertices_seen.items
    c.mark-in-Ok.new.flags.items s.faces_seen.items d
    c.self.invariant at.0 at.1 at.2 at.3 (omega arith) (omega arith) c.in-Ok.ensures.good
    c.in-Ok.ensures.fits
    (rw c.in-Ok.ensures.split at c.add_record.ensures)
    (subst (λ r. AreMarked c.mark-in-Ok.new.flags.items ((node_inputs s.forest.h ++ r.t.input ∷ [])
    ++ r.u.input ∷ [])) c.in-Ok.ensures.split marked)
    (c.mark-in-Ok.ensures.len ∙ c.mark.ensures.len)
