use Rattle.std.proofs.Common.{◌≡◌, ℕ, ◌<◌, length, drop}
use Rattle.pm_buffers.specs.Buffers.{at}
use Rattle.vdpm_c.specs.Buffering.{IsSlotOf}
use Rattle.vdpm_c.proofs.buffers.write_slots.Given as goal

abbrev pub invariant-loop-place : goal.invariant-loop-place
invariant-loop-place l = record {
  each : (k : ℕ) → k < l.place → IsSlotOf l.slots.entries (at l.items k) (at l.out k);
  behind : drop (length l.items) l.out ≡ drop (length l.items) l.fn.out;
  len : length l.out ≡ length l.fn.out;
}
