use Rattle.std.proofs.Common.{◌≡◌, ◌∙◌, ap, sym, true, false}
use Rattle.pm_forest.specs.Forest.{t_of, u_of, holds}
use Rattle.pm_forest.specs.Fronts.{ancestor_of, with}
use Rattle.pm_base.specs.Counts.{set_of}
use Rattle.pm_front.proofs.CornerTables.{with_t, with_u, with_neither, ancestor_there}
use Rattle.pm_front.proofs.corners.ancestor_with.Goals as goal

pub returns-then-holds-clause-value : goal.returns-then-holds-clause-value
returns-then-holds-clause-value c =
    let h = c.args.h.now in
    let T = set_of c.args.flags.now in
    let k = c.args.k in
    let x = c.leaf-leaf.result in
    let held : holds h (t_of h k) x ≡ true =
    ap (λ v. holds h v x) (sym c.children.ensures.t) ∙ sym c.holds.ensures ∙ c.if-holds.true in
    c.children.ensures.t
    ∙ with_t h c.invariant.ensures T c.requires.front k c.requires.record c.requires.active
    c.requires.unsplit x c.leaf-leaf.ensures.leaf held
    ∙ ap (ancestor_of h (with T k)) c.leaf-leaf.ensures.value

pub returns-then-holds-2-clause-value : goal.returns-then-holds-2-clause-value
returns-then-holds-2-clause-value c =
    let h = c.args.h.now in
    let T = set_of c.args.flags.now in
    let k = c.args.k in
    let x = c.leaf-leaf.result in
    let held : holds h (u_of h k) x ≡ true =
    ap (λ v. holds h v x) (sym c.children.ensures.u) ∙ sym c.holds-2.ensures ∙ c.if-holds-2.true in
    c.children.ensures.u
    ∙ with_u h c.invariant.ensures T c.requires.front k c.requires.record c.requires.active
    c.requires.unsplit x c.leaf-leaf.ensures.leaf held
    ∙ ap (ancestor_of h (with T k)) c.leaf-leaf.ensures.value

pub ancestor_across-requires-clause-not_t : goal.ancestor_across-requires-clause-not_t
ancestor_across-requires-clause-not_t c =
    let h = c.args.h.now in
    let x = c.leaf-leaf.result in
    ap (holds h (t_of h c.args.k)) (sym c.leaf-leaf.ensures.value)
    ∙ ap (λ v. holds h v x) (sym c.children.ensures.t) ∙ sym c.holds.ensures ∙ c.if-holds.false

pub ancestor_across-requires-clause-not_u : goal.ancestor_across-requires-clause-not_u
ancestor_across-requires-clause-not_u c =
    let h = c.args.h.now in
    let x = c.leaf-leaf.result in
    ap (holds h (u_of h c.args.k)) (sym c.leaf-leaf.ensures.value)
    ∙ ap (λ v. holds h v x) (sym c.children.ensures.u) ∙ sym c.holds-2.ensures ∙ c.if-holds-2.false

pub returns-in-Some-clause-node : goal.returns-in-Some-clause-node
returns-in-Some-clause-node c =
    let h = c.args.h.now in
    let W = with (set_of c.args.flags.now) c.args.k in
    ancestor_there h c.invariant.ensures W c.leaf-leaf.result _ c.leaf-leaf.ensures.leaf
    (c.in-Some.ensures ∙ ap (ancestor_of h W) (sym c.leaf-leaf.ensures.value))

pub returns-in-None-clause-value : goal.returns-in-None-clause-value
returns-in-None-clause-value c =
    let h = c.args.h.now in
    let T = set_of c.args.flags.now in
    let k = c.args.k in
    let x = c.leaf-leaf.result in
    let not_t : holds h (t_of h k) x ≡ false =
    ap (λ v. holds h v x) (sym c.children.ensures.t) ∙ sym c.holds.ensures ∙ c.if-holds.false in
    let not_u : holds h (u_of h k) x ≡ false =
    ap (λ v. holds h v x) (sym c.children.ensures.u) ∙ sym c.holds-2.ensures ∙ c.if-holds-2.false in
    c.ancestor.ensures
    ∙ with_neither h c.invariant.ensures T c.requires.front k c.requires.record c.requires.active
    c.requires.unsplit x c.leaf-leaf.ensures.leaf not_t not_u
    ∙ ap (ancestor_of h (with T k)) c.leaf-leaf.ensures.value

pub returns-in-None-clause-node : goal.returns-in-None-clause-node
returns-in-None-clause-node c =
    ancestor_there c.args.h.now c.invariant.ensures (set_of c.args.flags.now) c.leaf-leaf.result _
    c.leaf-leaf.ensures.leaf c.ancestor.ensures
