use Rattle.std.proofs.Common.{◌∙◌, sym, subst, ap}
use Rattle.pm_links.specs.Lists.{Lists}
use Rattle.pm_forest.specs.Forest.{Hierarchy}
use Rattle.pm_forest.specs.Fronts.{no_records}
use Rattle.pm_front.specs.Active.{AreActive, AreShown}
use Rattle.pm_front.specs.Corners.{base_lists}
use Rattle.pm_front.specs.Members.{Members}
use Rattle.pm_front.specs.State.{AreFrontTables}
use Rattle.pm_front.proofs.BaseLaws.{base-refined}
use Rattle.pm_front.proofs.front_tables.FrontTables.base.Goals as goal

pub invariant_of-result : goal.invariant_of-result
invariant_of-result c =
    let h = c.args.lowering.h in
    let parts = c.into_parts-indexed in
    let flags = parts.result.1.items in
    let corners = c.base_corners.new.corners in
    let active = c.base_active.new.nodes in
    let kept = c.base_kept.new.faces in
    let same = c.hierarchy-h.ensures ∙ parts.ensures.h in
    let items = c.base_corners.ensures.items
    ∙ ap (λ (v : Lists). v.items) c.requires.empty.no_corners in
    let lists = c.base_corners.ensures.lists
    ∙ ap (λ (g : Hierarchy). base_lists g) parts.ensures.h in
    let bound = c.base_active.ensures.bound
    ∙ ap (λ (v : Members). v.bound) c.requires.empty.no_nodes in
    let nodes = subst (λ (g : Hierarchy). AreActive g no_records active.list) same
    c.base_active.ensures.right in
    let kept_bound =
    c.base_kept.ensures.bound ∙ ap (λ (v : Members). v.bound) c.requires.empty.no_faces in
    let faces = subst (λ (g : Hierarchy). AreShown g no_records kept.list) same
    c.base_kept.ensures.right in
    subst (λ (g : Hierarchy). AreFrontTables g flags corners active kept parts.result.2)
    (sym parts.ensures.h)
    (base-refined h flags parts.ensures.flags c.invariant.ensures.shape c.invariant.ensures.once
    corners active kept parts.result.2
    items lists bound nodes kept_bound faces parts.ensures.stored)
