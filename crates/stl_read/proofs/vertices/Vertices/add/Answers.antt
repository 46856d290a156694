use Rattle.std.proofs.Common.{◌≡◌, ℕ, ap, sym, ◌∙◌, Some, None, length, slice_index_or, arith}
use Rattle.std.proofs.lemmas.List.{get_or_default}
use Rattle.stl_read.specs.Numbering.{slot_of}
use Rattle.stl_read.proofs.NumberLaws.{added_in_slot, added_in_map}
use Rattle.stl_read.proofs.vertices.Vertices.add.Goals as goal

pub returns-in-None-clause-numbered : goal.returns-in-None-clause-numbered
returns-in-None-clause-numbered c =
    let self = c.args.self.now in
    let slots = self.slots.items in
    let i = c.slot_of-slot.result in
    let long : c.len.result ≡ length slots = omega (arith, c.len.ensures, self.slots.ok.0) in
    let free : slice_index_or slots i None ≡ None = sym (rw c.in-None.is at c.index.ensures) in
    added_in_slot self.points.items c.push.new.self.items c.args.p.now slots self.others
    c.len-number.result i c.requires.numbered c.requires.new
    (omega (arith, c.len-number.ensures, self.points.ok.0)) c.in_ok-push.ensures.items
    (c.slot_of-slot.ensures.slot ∙ ap (λ (k : ℕ). slot_of k c.args.p.now) long) free

pub returns-in_ok-insert-in-Some-clause-numbered : goal.returns-in_ok-insert-in-Some-clause-numbered
returns-in_ok-insert-in-Some-clause-numbered c =
    let self = c.args.self.now in
    let slots = self.slots.items in
    let i = c.slot_of-slot.result in
    let v = c.in-Some.field-0 in
    let long : c.len.result ≡ length slots = omega (arith, c.len.ensures, self.slots.ok.0) in
    let full : slice_index_or slots i None ≡ Some v =
    get_or_default slots i None (Some v) (omega (arith, long, c.slot_of-slot.ensures.within))
    ∙ sym (rw c.in-Some.is at c.index.ensures) in
    added_in_map self.points.items c.push.new.self.items c.args.p.now slots self.others
    c.insert.new.self c.len-number.result i v c.requires.numbered c.requires.new
    (omega (arith, c.len-number.ensures, self.points.ok.0)) c.in_ok-push.ensures.items
    (c.slot_of-slot.ensures.slot ∙ ap (λ (k : ℕ). slot_of k c.args.p.now) long) full
    (rw c.key_of.ensures at c.in_ok-insert-in-Some.ensures.updates)
