use Rattle.std.proofs.Common.{ℕ, subst, arith}
use Rattle.std.proofs.lemmas.List.{get_or_default}
use Rattle.pm_buffers.specs.Buffers.{at, Shows}
use Rattle.pm_buffers.specs.declared.tables.TheConstants.{EMPTY}
use Rattle.pm_buffers.proofs.CountLaws.{shown_yes, hidden_no, more_staying, same_staying}
use Rattle.pm_buffers.proofs.checks.staying.Goals as goal
use Rattle.pm_buffers.proofs.checks.staying.Goals.{then-shows, else-shows}

pub loop-item-preserved : goal.loop-item-preserved
loop-item-preserved c =
    let entries = c.args.tables.now.entries in
    let xs = c.args.items.now in
    let k = c.loop-item.item-index in
    let low = c.loop-item-test.true in
    let read = get_or_default xs k 0 EMPTY low in
    let done = c.loop-item.invariant in
    elim c.if-shows.branch [
      | then-shows w ↦
          let shown = subst (Shows entries) read (c.shows.ensures.yes w.if-shows.true) in
          let more = more_staying entries xs k low (shown_yes entries (at xs k) shown) in
          record {
            count = omega (arith, w.count-is, more, done.count);
            within = omega (arith, w.count-is, done.within);
          }
      | else-shows w ↦
          let hidden : ¬ Shows entries (at xs k) =
          subst (λ (x : ℕ). ¬ Shows entries x) read (c.shows.ensures.no w.if-shows.false) in
          let same = same_staying entries xs k low (hidden_no entries (at xs k) hidden) in
          record {
            count = omega (arith, w.count-is, same, done.count);
            within = omega (arith, w.count-is, done.within);
          }
    ]
