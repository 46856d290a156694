use Rattle.std.proofs.Common.{◌≡◌, ◌+◌, ◌-◌, ◌++◌, length, map}
use Rattle.std.specs.Option.{option_map}
use Rattle.pm_ears.specs.Cutting.{named}
use Rattle.pm_ears.specs.Ears.{ears}
use Rattle.pm_ears.specs.Counted.{AreCounted}
use Rattle.pm_ears.proofs.ears.ears.Given as goal

abbrev pub invariant-loop-taken : goal.invariant-loop-taken
invariant-loop-taken l = record {
  fewer : length l.left.items + l._taken ≡ length l.spots + 2;
  counted : AreCounted l.left.items (length l.left.items - 2) l.inside.items;
  so_far : option_map (λ ts. l.triangles.items ++ map named ts)
      (ears (length l.left.items - 2) l.left.items)
      ≡ option_map (map named) (ears (length l.spots - 2) l.spots);
}
