use Rattle.std.proofs.Common.{◌≡◌, ◌<◌, ◌+◌, ◌-◌, sym, subst, ap, ◌∙◌, arith, length}
use Rattle.std.proofs.lemmas.List.{get_or_read}
use Rattle.pm_buffers.specs.Buffers.{Buffer, Shows, at, shown_count}
use Rattle.pm_buffers.specs.declared.tables.TheConstants.{EMPTY}
use Rattle.pm_buffers.proofs.TableLaws.{tables_filled, counts_came}
use Rattle.pm_buffers.proofs.TableLaws.{is_buffer}
use Rattle.pm_buffers.proofs.tables.Tables.fill.Goals as goal

pub invariant_of-self : goal.invariant_of-self
invariant_of-self c =
    let low = subst (λ (b : Buffer). c.args.new < length b.entries) (sym c.self.view_is)
    c.requires.new in
    let hidden = subst (λ (b : Buffer). ¬ Shows b.entries c.args.new) (sym c.self.view_is)
    c.requires.hidden in
    let hole = subst (λ (b : Buffer). shown_count b.entries < b.len) (sym c.self.view_is)
    c.requires.hole in
    let left = c.self.inside.hole_count - 1 in
    let one : left + 1 ≡ c.self.inside.hole_count = omega (arith, c.self.invariant.balance) in
    let within : left < length c.self.inside.holes.items =
    omega (
      arith,
      c.self.invariant.balance,
      c.self.invariant.bound,
      c.self.invariant.holes.room,
    ) in
    let is : c.index-slot.result.now ≡ at c.self.inside.holes.items left =
    get_or_read _ _ _ within c.index-slot.ensures EMPTY in
    let s_low = c.self.invariant.holes.low left (omega (arith, one)) in
    let s_empty = c.self.invariant.holes.empty left (omega (arith, one)) in
    rw (c.pair.ensures.slots, c.pair.ensures.entries)
    (tables_filled _ _ _ _ _ c.self.invariant c.args.new low hidden c.index-slot.result.now
    (omega (arith, is, s_low, c.self.invariant.bound))
    (ap (at c.self.inside.entries.items) is ∙ s_empty) left one is)

pub returns-clause-count : goal.returns-clause-count
returns-clause-count c =
    let low = subst (λ (b : Buffer). c.args.new < length b.entries) (sym c.self.view_is)
    c.requires.new in
    let hidden = subst (λ (b : Buffer). ¬ Shows b.entries c.args.new) (sym c.self.view_is)
    c.requires.hidden in
    let hole = subst (λ (b : Buffer). shown_count b.entries < b.len) (sym c.self.view_is)
    c.requires.hole in
    let left = c.self.inside.hole_count - 1 in
    let one : left + 1 ≡ c.self.inside.hole_count = omega (arith, c.self.invariant.balance) in
    let within : left < length c.self.inside.holes.items =
    omega (
      arith,
      c.self.invariant.balance,
      c.self.invariant.bound,
      c.self.invariant.holes.room,
    ) in
    let is : c.index-slot.result.now ≡ at c.self.inside.holes.items left =
    get_or_read _ _ _ within c.index-slot.ensures EMPTY in
    let s_low = c.self.invariant.holes.low left (omega (arith, one)) in
    let s_empty = c.self.invariant.holes.empty left (omega (arith, one)) in
    rw (c.pair.ensures.entries, ← c.self.view_is)
    (counts_came _ _ _ _ _ c.self.invariant c.args.new low hidden c.index-slot.result.now
    (omega (arith, is, s_low, c.self.invariant.bound))
    (ap (at c.self.inside.entries.items) is ∙ s_empty))

pub returns-clause-sound : goal.returns-clause-sound
returns-clause-sound c = is_buffer _ _ _ _ _ (invariant_of-self c)
