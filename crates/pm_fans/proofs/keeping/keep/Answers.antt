use Rattle.std.proofs.Common.{◌∙◌, sym, ap, subst, true, not}
use Rattle.std.specs.Ordering.{nat_cmp}
use Rattle.std.specs.BTreeSet.{contains, Updates}
use Rattle.pm_fans.proofs.KeySets.{flat_goes, old_goes, new_stays, new_holds}
use Rattle.pm_fans.proofs.keeping.keep.Goals as goal

pub returns-then-is_flat-clause-stay : goal.returns-then-is_flat-clause-stay
returns-then-is_flat-clause-stay c =
    flat_goes c.args.stay.now.items c.args.face (sym c.is_flat.ensures ∙ c.if-is_flat.true)

pub returns-then-not-branch-clause-stay : goal.returns-then-not-branch-clause-stay
returns-then-not-branch-clause-stay c =
    let new = ap (λ k. not (contains nat_cmp c.args.keys.now k)) (sym c.key.ensures.key)
    ∙ sym c.in_ok-insert.ensures.added ∙ c.if-not-branch.true in
    old_goes c.args.stay.now.items c.args.face c.args.keys.now c.requires.holds
    (sym c.is_flat.ensures ∙ c.if-is_flat.false) c.key.ensures.short new

pub returns-clause-stay : goal.returns-clause-stay
returns-clause-stay c =
    let new = ap (λ k. not (contains nat_cmp c.args.keys.now k)) (sym c.key.ensures.key)
    ∙ sym c.in_ok-insert.ensures.added ∙ c.if-not-branch.false in
    c.in_ok-push.ensures.items ∙ new_stays c.args.stay.now.items c.args.face c.args.keys.now
    c.requires.holds (sym c.is_flat.ensures ∙ c.if-is_flat.false) c.key.ensures.short new

pub returns-clause-holds : goal.returns-clause-holds
returns-clause-holds c =
    let updates =
    subst (λ k. Updates nat_cmp c.args.keys.now c.insert.new.self k true) c.key.ensures.key
    c.in_ok-insert.ensures.updates in
    new_holds c.args.stay.now.items c.push.new.self.items c.args.face c.args.keys.now
    c.insert.new.self c.requires.holds (sym c.is_flat.ensures ∙ c.if-is_flat.false)
    c.key.ensures.short updates c.in_ok-push.ensures.items
