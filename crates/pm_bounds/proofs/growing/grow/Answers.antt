use Rattle.std.proofs.Common.{◌≡◌, ℕ, suc, ◌+◌, ◌-◌, ◌*◌, ◌<◌, ◌≤◌, List, get_or, set, subst, sym}
use Rattle.std.proofs.Common.{ap, ◌∙◌, arith}
use Rattle.pm_forest.specs.Forest.{record_count, node_count}
use Rattle.pm_bounds.specs.declared.balls.Ball.{Ball}
use Rattle.pm_bounds.specs.Tables.{errors_of, radii_of, grown_at}
use Rattle.pm_bounds.proofs.NodeTables.{AreGrown, table_start, table_step, table_bounds}
use Rattle.pm_bounds.proofs.NodeTables.{table_small}
use Rattle.pm_bounds.proofs.growing.grow.Goals as goal

pub loop-k-init : goal.loop-k-init
loop-k-init c =
    let h = c.args.h.now in
    let first = c.args.balls.now.items in
    let boxes = c.args.boxes.now.items in
    let splits = c.args.split_balls.now.items in
    subst (AreGrown h first first boxes splits) (sym c.records-k.ensures.value)
    (table_start h c.invariant.ensures first boxes c.requires.leaves splits c.requires.balls_len
    c.requires.boxes_len c.requires.splits_len c.requires.small_radii c.requires.small_boxes)

pub loop-k-preserved : goal.loop-k-preserved
loop-k-preserved c =
    let h = c.args.h.now in
    let first = c.args.balls.now.items in
    let old = c.loop-k.balls.items in
    let boxes = c.loop-k.boxes.items in
    let splits = c.loop-k.split_balls.items in
    let k = c.loop-k.k - 1 in
    let new = c.from_children.result in
    let new_boxes = c.join_children.new.boxes.items in
    let clauses = c.from_children.ensures in
    let seen = c.deref.ensures.value in
    let at : c.loop-k.k ≡ suc k = omega (arith, c.loop-k-test.true) in
    let was : AreGrown h first old boxes splits (suc k) =
    subst (AreGrown h first old boxes splits) at c.loop-k.invariant in
    let most = 113509 * (1 + (record_count h - suc k)) in
    let small_error =
    clauses.small_error most
    (subst (λ (t : List Ball). (v : ℕ) → v < node_count h → get_or (errors_of t) v 0 ≤ most)
    (sym seen) was.errors.small) in
    let small_radius =
    clauses.small_radius most
    (subst (λ (t : List Ball). (v : ℕ) → v < node_count h → get_or (radii_of t) v 0 ≤ most)
    (sym seen) was.radii.small) in
    subst (λ s. AreGrown h first (set old s new) new_boxes (set splits k new) k)
    (sym c.nodes_of.ensures.s)
    (table_step h c.invariant.ensures first c.args.boxes.now.items c.requires.leaves old boxes
    new_boxes splits k new (omega (arith, c.loop-k.auto.k, c.records-k.ensures.value)) was
    clauses.place
    (clauses.error ∙ ap (λ (t : List Ball). grown_at h (errors_of t) k) seen) small_error
    (clauses.radius ∙ ap (λ (t : List Ball). grown_at h (radii_of t) k) seen) small_radius
    c.join_children.ensures)

pub returns-clause-are : goal.returns-clause-are
returns-clause-are c =
    let h = c.args.h.now in
    let first = c.args.balls.now.items in
    let balls = c.loop-k.balls.items in
    let boxes = c.loop-k.boxes.items in
    let splits = c.loop-k.split_balls.items in
    let none : c.loop-k.k ≡ 0 = omega (arith, c.loop-k-test.false) in
    table_bounds h c.invariant.ensures first c.args.boxes.now.items c.requires.leaves balls boxes
    splits (subst (AreGrown h first balls boxes splits) none c.loop-k.invariant)

pub returns-clause-small : goal.returns-clause-small
returns-clause-small c =
    let h = c.args.h.now in
    let first = c.args.balls.now.items in
    let balls = c.loop-k.balls.items in
    let boxes = c.loop-k.boxes.items in
    let splits = c.loop-k.split_balls.items in
    let none : c.loop-k.k ≡ 0 = omega (arith, c.loop-k-test.false) in
    table_small h c.invariant.ensures first c.args.boxes.now.items c.requires.leaves balls boxes
    splits (subst (AreGrown h first balls boxes splits) none c.loop-k.invariant)
