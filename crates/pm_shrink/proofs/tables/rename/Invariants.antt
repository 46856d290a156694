use Rattle.std.proofs.Common.{◌≡◌, ◌<◌, ◌*◌, length}
use Rattle.std.specs.List.{All}
use Rattle.pm_links.specs.Lists.{list_of}
use Rattle.pm_shrink.specs.Writes.{with_corners}
use Rattle.pm_shrink.proofs.tables.rename.Given as goal

-- What is left to write makes it whole.
abbrev pub invariant-loop-number : goal.invariant-loop-number
invariant-loop-number l = record {
  left : with_corners l.faces.faces l.number-iterator l.to
      ≡ with_corners l.fn.faces.faces (list_of l.corners l.from) l.to;
  across : l.faces.across ≡ l.fn.faces.across;
  len : length l.faces.faces ≡ length l.fn.faces.faces;
  within : All (λ e. e < 3 * length l.fn.faces.faces) l.number-iterator;
}
