use Rattle.std.proofs.Common.{ℕ, length, inl, inr, sym, subst, ap, ◌∙◌, arith}
use Rattle.std.proofs.Common.{length-set}
use Rattle.std.proofs.lemmas.Bool.{cases_eq}
use Rattle.std.proofs.lemmas.List.{drop-set-lt, get_or_default}
use Rattle.pm_buffers.specs.Buffers.{at}
use Rattle.pm_buffers.specs.declared.tables.TheConstants.{EMPTY}
use Rattle.pm_buffers.proofs.TableLaws.{at_set, at_set_other}
use Rattle.vdpm_c.specs.Buffering.{IsSlotOf}
use Rattle.vdpm_c.proofs.buffers.write_slots.Goals as goal

pub loop-place-preserved : goal.loop-place-preserved
loop-place-preserved c =
    let place = c.loop-place.place in
    let out = c.loop-place.out in
    let slot = c.slot_told.result in
    let low = c.loop-place-test.true in
    let done = c.loop-place.invariant in
    let read = get_or_default c.args.items.now place 0 EMPTY low in
    record {
      each = λ k before.
          elim (cases_eq k place) [
            | inl is ↦
                let told = subst (λ (x : ℕ). IsSlotOf c.args.slots.now.entries x slot)
                (read ∙ ap (at c.args.items.now) (sym is)) c.slot_told.ensures in
                subst (IsSlotOf c.args.slots.now.entries (at c.args.items.now k))
                (sym (at_set out place slot k is (omega (arith, low, done.len, c.requires)))) told
            | inr other ↦
                subst (IsSlotOf c.args.slots.now.entries (at c.args.items.now k))
                (sym (at_set_other out place slot k other))
                (done.each k (omega (arith, before, other)))
          ];
      behind = drop-set-lt (length c.args.items.now) out place slot low ∙ done.behind;
      len = length-set out place slot ∙ done.len;
    }

pub returns : goal.returns
returns c = record {
  each = λ k low. c.loop-place.invariant.each k (omega (arith, low, c.loop-place-test.false));
  behind = c.loop-place.invariant.behind;
}
