use Rattle.std.proofs.Common.{◌≡◌, ◌<◌, sym, subst, arith, length, refl}
use Rattle.pm_buffers.specs.Buffers.{Buffer, Shows, shown_count}
use Rattle.pm_buffers.proofs.TableLaws.{tables_longer, counts_came, room_for}
use Rattle.pm_buffers.proofs.TableLaws.{is_buffer}
use Rattle.pm_buffers.proofs.tables.Tables.extend.Goals as goal

pub overflow_add-self : goal.overflow_add-self
overflow_add-self c =
    let low = subst (λ (b : Buffer). c.args.new < length b.entries) (sym c.self.view_is)
    c.requires.new in
    let hidden = subst (λ (b : Buffer). ¬ Shows b.entries c.args.new) (sym c.self.view_is)
    c.requires.hidden in
    let full = subst (λ (b : Buffer). shown_count b.entries ≡ b.len) (sym c.self.view_is)
    c.requires.full in
    let room = room_for _ _ _ _ _ c.self.invariant c.args.new low hidden in
    omega (arith, c.self.invariant.few)

pub pair-requires-clause-slot : goal.pair-requires-clause-slot
pair-requires-clause-slot c =
    let low = subst (λ (b : Buffer). c.args.new < length b.entries) (sym c.self.view_is)
    c.requires.new in
    let hidden = subst (λ (b : Buffer). ¬ Shows b.entries c.args.new) (sym c.self.view_is)
    c.requires.hidden in
    let full = subst (λ (b : Buffer). shown_count b.entries ≡ b.len) (sym c.self.view_is)
    c.requires.full in
    let room = room_for _ _ _ _ _ c.self.invariant c.args.new low hidden in
    omega arith

pub invariant_of-self : goal.invariant_of-self
invariant_of-self c =
    let low = subst (λ (b : Buffer). c.args.new < length b.entries) (sym c.self.view_is)
    c.requires.new in
    let hidden = subst (λ (b : Buffer). ¬ Shows b.entries c.args.new) (sym c.self.view_is)
    c.requires.hidden in
    let full = subst (λ (b : Buffer). shown_count b.entries ≡ b.len) (sym c.self.view_is)
    c.requires.full in
    let room = room_for _ _ _ _ _ c.self.invariant c.args.new low hidden in
    let none : c.self.inside.hole_count ≡ 0 = omega (arith, c.self.invariant.balance) in
    rw (c.pair.ensures.slots, c.pair.ensures.entries, none)
    (tables_longer _ _ _ _ _ c.self.invariant c.args.new low hidden c.self.inside.len
    (omega arith) (c.self.invariant.beyond c.self.inside.len (omega arith)) none refl)

pub returns-clause-within : goal.returns-clause-within
returns-clause-within c =
    let low = subst (λ (b : Buffer). c.args.new < length b.entries) (sym c.self.view_is)
    c.requires.new in
    let hidden = subst (λ (b : Buffer). ¬ Shows b.entries c.args.new) (sym c.self.view_is)
    c.requires.hidden in
    let full = subst (λ (b : Buffer). shown_count b.entries ≡ b.len) (sym c.self.view_is)
    c.requires.full in
    let room = room_for _ _ _ _ _ c.self.invariant c.args.new low hidden in
    subst (λ (b : Buffer). c.self.inside.len < length b.entries) c.self.view_is (omega arith)

pub returns-clause-count : goal.returns-clause-count
returns-clause-count c =
    let low = subst (λ (b : Buffer). c.args.new < length b.entries) (sym c.self.view_is)
    c.requires.new in
    let hidden = subst (λ (b : Buffer). ¬ Shows b.entries c.args.new) (sym c.self.view_is)
    c.requires.hidden in
    let full = subst (λ (b : Buffer). shown_count b.entries ≡ b.len) (sym c.self.view_is)
    c.requires.full in
    let room = room_for _ _ _ _ _ c.self.invariant c.args.new low hidden in
    rw (c.pair.ensures.entries, ← c.self.view_is)
    (counts_came _ _ _ _ _ c.self.invariant c.args.new low hidden c.self.inside.len
    (omega arith) (c.self.invariant.beyond c.self.inside.len (omega arith)))

pub returns-clause-sound : goal.returns-clause-sound
returns-clause-sound c = is_buffer _ _ _ _ _ (invariant_of-self c)
