use Rattle.std.proofs.Common.{◌≡◌, ◌∙◌, sym, ap, subst, Some}
use Rattle.std.specs.Option.{is_some}
use Rattle.std.specs.Ordering.{nat_cmp}
use Rattle.std.specs.BTreeMap.{get, Updates}
use Rattle.pm_base.specs.Sides.{Net, net_of}
use Rattle.pm_fans.specs.Ends.{ends_key, ends_key_at}
use Rattle.pm_fans.proofs.GlueLaws.{first_noted, again_noted}
use Rattle.pm_fans.proofs.glue.note.Goals as goal

pub returns-then-contains_key : goal.returns-then-contains_key
returns-then-contains_key c =
    let m : Net = net_of c.args.faces.now in
    let key : c.ends-key.result ≡ ends_key_at m c.args.side.0 =
    c.ends-key.ensures ∙ ap (λ i. ends_key i c.to.result) c.from.ensures
    ∙ ap (ends_key (m.from c.args.side.0)) c.to.ensures in
    again_noted m c.args.side.0 c.args.sides.now c.insert.new.self c.requires.noted
    (ap (λ k. is_some (get nat_cmp c.args.sides.now k)) (sym key) ∙ sym c.contains_key.ensures
    ∙ c.if-contains_key.true)
    (subst (λ k. Updates nat_cmp c.args.sides.now c.insert.new.self k (Some 4294967295)) key
    c.in_ok-insert.ensures.updates)

pub returns : goal.returns
returns c =
    let m : Net = net_of c.args.faces.now in
    let key : c.ends-key.result ≡ ends_key_at m c.args.side.0 =
    c.ends-key.ensures ∙ ap (λ i. ends_key i c.to.result) c.from.ensures
    ∙ ap (ends_key (m.from c.args.side.0)) c.to.ensures in
    first_noted m c.args.side.0 c.args.sides.now c.insert-2.new.self c.requires.noted
    (ap (λ k. is_some (get nat_cmp c.args.sides.now k)) (sym key) ∙ sym c.contains_key.ensures
    ∙ c.if-contains_key.false)
    (subst (λ k. Updates nat_cmp c.args.sides.now c.insert-2.new.self k (Some c.args.side.0)) key
    c.in_ok-insert-2.ensures.updates)
