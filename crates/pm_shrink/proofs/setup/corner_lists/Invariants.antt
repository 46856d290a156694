use Rattle.std.proofs.Common.{◌≡◌, ◌<◌, ◌↔◌, ℕ, true, length}
use Rattle.pm_links.specs.Lists.{list_of, has, IsSound}
use Rattle.pm_shrink.specs.FaceRows.{side_from}
use Rattle.pm_shrink.proofs.setup.corner_lists.Given as goal

abbrev pub invariant-loop-number : goal.invariant-loop-number
invariant-loop-number l = record {
  items : l.lists.items ≡ l.sides;
  heads : length l.lists.lists ≡ l.room;
  sound : IsSound l.lists;
  each : (v e : ℕ) → (has (list_of l.lists v) e ≡ true)
      ↔ ((e < l.number) × (side_from l.faces.faces e ≡ v));
}
