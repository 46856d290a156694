use Rattle.std.proofs.Common.{◌≡◌, sym, subst, refl}
use Rattle.pm_deviation.specs.declared.unit_box.UnitBox.{UnitBox}
use Rattle.pm_deviation.specs.Lines.{line_spread_of, line_box_of}
use Rattle.pm_deviation.specs.Tables.{IsSum}
use Rattle.pm_deviation.proofs.AxisLaws.{line_box_small}
use Rattle.pm_deviation.proofs.steps.line_step.Goals as goal

pub across-most-requires-clause-x_small : goal.across-most-requires-clause-x_small
across-most-requires-clause-x_small c =
    let h = c.args.h.now in
    subst (λ (b : UnitBox). IsSum b.x)
    (sym (c.under.ensures h (line_spread_of h) c.requires.spreads))
    (line_box_small h c.args.child.0).0

pub across-most-requires-clause-y_small : goal.across-most-requires-clause-y_small
across-most-requires-clause-y_small c =
    let h = c.args.h.now in
    subst (λ (b : UnitBox). IsSum b.y)
    (sym (c.under.ensures h (line_spread_of h) c.requires.spreads))
    (line_box_small h c.args.child.0).1

pub across-most-requires-clause-z_small : goal.across-most-requires-clause-z_small
across-most-requires-clause-z_small c =
    let h = c.args.h.now in
    subst (λ (b : UnitBox). IsSum b.z)
    (sym (c.under.ensures h (line_spread_of h) c.requires.spreads))
    (line_box_small h c.args.child.0).2

pub returns-clause-value : goal.returns-clause-value
returns-clause-value c =
    let h = c.args.h.now in
    let box : c.under.result ≡ line_box_of h c.args.child.0 =
    c.under.ensures h (line_spread_of h) c.requires.spreads in
    rw (
      c.min.ensures,
      c.from.ensures,
      c.dist_up.ensures.value,
      c.across-most.ensures,
      box,
      c.place-p.ensures,
      c.place-q.ensures,
    )
    refl
