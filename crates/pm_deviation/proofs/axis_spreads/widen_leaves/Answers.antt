use Rattle.std.proofs.Common.{◌≡◌, ℕ, ◌<◌, cond, get_or, None, Option, subst}
use Rattle.pm_forest.specs.Forest.{leaf_count}
use Rattle.pm_forest.specs.Tables.{leaf_node_of}
use Rattle.pm_bounds.specs.Leaves.{is_leaf_corner}
use Rattle.pm_deviation.specs.declared.spread.Spread.{Spread}
use Rattle.pm_deviation.specs.Spreads.{join}
use Rattle.pm_deviation.specs.Tables.{leaves_of}
use Rattle.pm_deviation.proofs.HeadingTables.{corners_widened}
use Rattle.pm_deviation.proofs.axis_spreads.widen_leaves.Goals as goal

pub returns-clause-wider : goal.returns-clause-wider
returns-clause-wider c =
    let h = c.args.h.now in
    let old = c.args.table.now.items in
    let heading = c.args.heading.now in
    let leaves = c.requires.heading in
    let all = c.widen-3.new.table.items in
    subst (λ (part : Option Spread). (l : ℕ) → l < leaf_count h →
    get_or all (leaf_node_of h l) None
    ≡ cond (is_leaf_corner l (leaves_of heading)) (join (get_or old (leaf_node_of h l) None) part)
    (get_or old (leaf_node_of h l) None)) c.heading_along-part.ensures
    (corners_widened h c.invariant.ensures old c.widen.new.table.items c.widen-2.new.table.items all
    c.heading_along-part.result (leaves_of heading) c.requires.len leaves.a_leaf leaves.b_leaf
    leaves.c_leaf c.widen.ensures.wider c.widen-2.ensures.wider c.widen-3.ensures.wider)
