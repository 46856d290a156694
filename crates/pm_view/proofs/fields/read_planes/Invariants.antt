use Rattle.std.proofs.Common.{◌≡◌, true, length}
use Rattle.std.specs.List.{list_all}
use Rattle.pm_view.specs.Views.{is_plane}
use Rattle.pm_view.specs.Fields.{fields_after}
use Rattle.pm_view.proofs.FieldLaws.{AreRead}
use Rattle.pm_view.proofs.fields.read_planes.Given as goal

abbrev pub invariant-loop-plane : goal.invariant-loop-plane
invariant-loop-plane l = record {
  len : length l.planes.items ≡ l._plane;
  read : AreRead (fields_after l.fields) l.planes.items l._plane (fields_after l.rest);
  in_range : list_all is_plane l.planes.items ≡ true;
}
