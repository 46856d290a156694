use Rattle.std.proofs.Common.{sym, subst, arith}
use Rattle.pm_buffers.specs.Buffers.{Buffer, Shows}
use Rattle.pm_buffers.proofs.TableLaws.{shown_low}
use Rattle.pm_buffers.proofs.tables.Tables.slot_of.Goals as goal

pub returns-then-item-len-clause-none : goal.returns-then-item-len-clause-none
returns-then-item-len-clause-none c shown =
    let is = subst (λ (b : Buffer). Shows b.entries c.args.item) (sym c.self.view_is) shown in
    absurd (omega (arith, shown_low _ _ _ _ _ c.self.invariant c.args.item is))
