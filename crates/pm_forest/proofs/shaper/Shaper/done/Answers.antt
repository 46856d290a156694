use Rattle.std.proofs.Common.{◌≡◌, sym, subst, ◌∙◌}
use Rattle.pm_forest.specs.declared.parts.UnitKind.TheVariants as kinds
use Rattle.pm_forest.specs.Shaping.{expects}
use Rattle.pm_forest.proofs.NextUnit.{expects_nothing}
use Rattle.pm_forest.proofs.HeadShaping.{counts_complete, shaped}
use Rattle.pm_forest.proofs.shaper.Shaper.done.Goals as goal

pub new-requires-clause-counts : goal.new-requires-clause-counts
new-requires-clause-counts c =
    let s = c.self.inside in
    let next = subst (λ v. expects v ≡ kinds.Nothing) (sym c.self.view_is) c.requires in
    let at = expects_nothing s.forest.counts s.forest.h s.forest.coming s.left_due s.right_due
    next in
    counts_complete s.forest s.left_due s.right_due s.vertices_seen.items s.faces_seen.items
    c.self.invariant at.0 at.1 at.2 at.3

pub new-requires-clause-shape : goal.new-requires-clause-shape
new-requires-clause-shape c =
    let s = c.self.inside in
    let next = subst (λ v. expects v ≡ kinds.Nothing) (sym c.self.view_is) c.requires in
    let at = expects_nothing s.forest.counts s.forest.h s.forest.coming s.left_due s.right_due
    next in
    let counts =
    counts_complete s.forest s.left_due s.right_due s.vertices_seen.items s.faces_seen.items
    c.self.invariant at.0 at.1 at.2 at.3 in
    shaped s.forest s.left_due s.right_due s.vertices_seen.items s.faces_seen.items c.self.invariant
    counts (c.past_fault.ensures ∙ c.in-None.is)
