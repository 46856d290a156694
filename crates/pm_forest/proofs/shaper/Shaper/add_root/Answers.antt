use Rattle.std.proofs.Common.{◌≡◌, sym, subst}
use Rattle.pm_forest.specs.declared.parts.UnitKind.TheVariants as kinds
use Rattle.pm_forest.specs.Rules.{root_inputs}
use Rattle.pm_forest.specs.Shaping.{expects}
use Rattle.pm_forest.proofs.NextUnit.{expects_root}
use Rattle.pm_forest.proofs.ShapingLaws.{roots_marked, root_added}
use Rattle.pm_forest.proofs.shaper.Shaper.add_root.Goals as goal

pub invariant_of-self : goal.invariant_of-self
invariant_of-self c =
    let s = c.self.inside in
    let next = subst (λ v. expects v ≡ kinds.Root) (sym c.self.view_is) c.requires in
    let at = expects_root s.forest.counts s.forest.h s.forest.coming s.left_due s.right_due next in
    let marked =
    roots_marked s.forest s.left_due s.right_due s.vertices_seen.items s.faces_seen.items
    c.self.invariant at.0 at.1 in
    root_added s.forest c.add_root.new.self s.left_due s.right_due s.vertices_seen.items
    c.mark.new.flags.items s.faces_seen.items c.in-Ok.root
    c.self.invariant at.0 at.1 c.in-Ok.ensures.fits c.add_root.ensures
    (c.mark.ensures.marked (root_inputs s.forest.h.roots) marked) c.mark.ensures.len
