use Rattle.std.proofs.Common.{◌≡◌}
use Rattle.pm_forest.specs.Faces.{first_face}
use Rattle.pm_prefix.specs.Tables.{whole, hierarchy_by, took_records}
use Rattle.pm_prefix.proofs.units.Prefix.add_records.Given as goal

abbrev pub invariant-loop-k : goal.invariant-loop-k
invariant-loop-k l = record {
  number : l.f ≡ first_face (whole l.self) l.k;
  taken : l.shaper ≡ took_records (hierarchy_by l.self) l.k;
}
