use Rattle.std.proofs.Common.{inl, inr, sym, subst, ap, ◌∙◌, arith}
use Rattle.std.proofs.lemmas.Bool.{cases_eq}
use Rattle.std.proofs.lemmas.List.{get_or_default}
use Rattle.pm_buffers.specs.Buffers.{at, Shows}
use Rattle.pm_buffers.specs.declared.tables.TheConstants.{EMPTY}
use Rattle.pm_buffers.proofs.checks.are_shown.Goals as goal

pub returns-then-not-shows-clause-no : goal.returns-then-not-shows-clause-no
returns-then-not-shows-clause-no c is all =
    let read = get_or_default c.args.items.now c.loop-item.item-index 0 EMPTY
    c.loop-item-test.true in
    c.shows.ensures.no c.if-not-shows.true
    (subst (Shows c.args.tables.now.entries) (sym read)
    (all c.loop-item.item-index c.loop-item-test.true))

pub loop-item-preserved : goal.loop-item-preserved
loop-item-preserved c k low =
    let read = get_or_default c.args.items.now c.loop-item.item-index 0 EMPTY
    c.loop-item-test.true in
    elim (cases_eq k c.loop-item.item-index) [
      | inl last ↦ subst (Shows c.args.tables.now.entries)
          (read ∙ ap (at c.args.items.now) (sym last))
          (c.shows.ensures.yes c.if-not-shows.false)
      | inr before ↦ c.loop-item.invariant k (omega (arith, low, before))
    ]
