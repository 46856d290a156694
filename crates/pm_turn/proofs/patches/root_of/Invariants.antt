use Rattle.std.proofs.Common.{ℕ, ◌<◌, ◌≤◌, Bool, length, slice_index_or}
use Rattle.pm_turn.specs.Turning.{flipped_if}
use Rattle.pm_turn.specs.Unions.{Up, AreTables, AreShorter, elders_of}
use Rattle.pm_turn.proofs.patches.root_of.Given as goal

abbrev pub invariant-loop-at : goal.invariant-loop-at
invariant-loop-at l =
    let now = elders_of l.p.elders.items l.p.parities.items l.p.odd.items in
    record {
      in_range : l.at < length l.fn.p.elders.items;
      tables : AreTables (length l.fn.p.elders.items) l.p.elders.items l.p.parities.items
          l.p.odd.items;
      shorter : AreShorter (elders_of l.fn.p.elders.items l.fn.p.parities.items l.fn.p.odd.items)
          now;
      below : (x : ℕ) → slice_index_or l.p.elders.items x 0 ≤ x;
      rise : (r : ℕ) (q : Bool) → Up now l.at r q → Up now l.fn.face r (flipped_if q l.parity);
    }

abbrev pub decreases-loop-at : goal.decreases-loop-at
decreases-loop-at l = l.at
