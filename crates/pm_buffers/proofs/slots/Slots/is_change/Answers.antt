use Rattle.std.proofs.Common.{length, sym, subst, ap, arith}
use Rattle.pm_buffers.specs.Buffers.{Buffer}
use Rattle.pm_buffers.specs.Changes.{AreShown, AreWithin}
use Rattle.pm_buffers.proofs.ChangeLaws.{shown_within}
use Rattle.pm_buffers.proofs.slots.Slots.is_change.Goals as goal

pub returns-then-not-are_shown-clause-no : goal.returns-then-not-are_shown-clause-no
returns-then-not-are_shown-clause-no c is change =
    c.are_shown.ensures.no c.if-not-are_shown.true
    (subst (λ (b : Buffer). AreShown b.entries c.args.gone.now) (sym c.self.view_is) change.shown)

pub are_apart-requires-clause-gone : goal.are_apart-requires-clause-gone
are_apart-requires-clause-gone c k low =
    let shown = c.are_shown.ensures.yes c.if-not-are_shown.false in
    omega (
      arith,
      shown_within c.self.inside.tables c.args.gone.now c.self.invariant.2 shown k low,
      c.self.invariant.0,
      ap length c.deref_mut.ensures.value,
    )

pub returns-clause-yes : goal.returns-clause-yes
returns-clause-yes c is = record {
  shown = subst (λ (b : Buffer). AreShown b.entries c.args.gone.now) c.self.view_is
      (c.are_shown.ensures.yes c.if-not-are_shown.false);
  within = subst (λ (b : Buffer). AreWithin b.entries c.args.put.now) c.self.view_is
      (c.are_within.ensures.yes c.if-not-are_within.false);
  lists = c.are_apart.ensures.yes is;
}
