use Rattle.std.proofs.Common.{◌≡◌, ◌<◌, sym, subst, ap, ◌∙◌, arith, length}
use Rattle.pm_buffers.specs.Buffers.{Buffer, Shows, at}
use Rattle.pm_buffers.proofs.TableLaws.{shown_low, slot_low, slot_there, tables_replaced}
use Rattle.pm_buffers.proofs.TableLaws.{counts_replaced}
use Rattle.pm_buffers.proofs.TableLaws.{is_buffer}
use Rattle.pm_buffers.proofs.tables.Tables.replace.Goals as goal

pub vacate-slot-requires : goal.vacate-slot-requires
vacate-slot-requires c =
    let shown = subst (λ (b : Buffer). Shows b.entries c.args.gone) (sym c.self.view_is)
    c.requires.gone in
    omega (arith, shown_low _ _ _ _ _ c.self.invariant c.args.gone shown)

pub pair-requires-clause-slot : goal.pair-requires-clause-slot
pair-requires-clause-slot c =
    let shown = subst (λ (b : Buffer). Shows b.entries c.args.gone) (sym c.self.view_is)
    c.requires.gone in
    omega (
      arith,
      slot_low _ _ _ _ _ c.self.invariant c.args.gone shown,
      c.vacate-slot.ensures.slot,
    )

pub invariant_of-self : goal.invariant_of-self
invariant_of-self c =
    let shown = subst (λ (b : Buffer). Shows b.entries c.args.gone) (sym c.self.view_is)
    c.requires.gone in
    let low = subst (λ (b : Buffer). c.args.new < length b.entries) (sym c.self.view_is)
    c.requires.new in
    let hidden = subst (λ (b : Buffer). ¬ Shows b.entries c.args.new) (sym c.self.view_is)
    c.requires.hidden in
    rw (
      c.pair.ensures.slots,
      c.pair.ensures.entries,
      c.vacate-slot.ensures.slots,
      c.vacate-slot.ensures.slot,
    )
    (tables_replaced _ _ _ _ _ c.self.invariant c.args.gone shown c.args.new low hidden)

pub returns-clause-slot : goal.returns-clause-slot
returns-clause-slot c =
    let shown = subst (λ (b : Buffer). Shows b.entries c.args.gone) (sym c.self.view_is)
    c.requires.gone in
    subst (λ (b : Buffer). at b.entries c.vacate-slot.result ≡ c.args.gone) c.self.view_is
    (ap (at c.self.inside.entries.items) c.vacate-slot.ensures.slot
    ∙ slot_there _ _ _ _ _ c.self.invariant c.args.gone shown)

pub returns-clause-within : goal.returns-clause-within
returns-clause-within c =
    let shown = subst (λ (b : Buffer). Shows b.entries c.args.gone) (sym c.self.view_is)
    c.requires.gone in
    subst (λ (b : Buffer). c.vacate-slot.result < length b.entries) c.self.view_is
    (rw c.vacate-slot.ensures.slot (slot_low _ _ _ _ _ c.self.invariant c.args.gone shown))

pub returns-clause-count : goal.returns-clause-count
returns-clause-count c =
    let shown = subst (λ (b : Buffer). Shows b.entries c.args.gone) (sym c.self.view_is)
    c.requires.gone in
    let low = subst (λ (b : Buffer). c.args.new < length b.entries) (sym c.self.view_is)
    c.requires.new in
    let hidden = subst (λ (b : Buffer). ¬ Shows b.entries c.args.new) (sym c.self.view_is)
    c.requires.hidden in
    rw (c.pair.ensures.entries, c.vacate-slot.ensures.slot, ← c.self.view_is)
    (counts_replaced _ _ _ _ _ c.self.invariant c.args.gone shown c.args.new low hidden)

pub returns-clause-sound : goal.returns-clause-sound
returns-clause-sound c = is_buffer _ _ _ _ _ (invariant_of-self c)
