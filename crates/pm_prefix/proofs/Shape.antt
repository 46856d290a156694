-- The first records of a hierarchy that has begun are a hierarchy of the right shape.
use Rattle.std.proofs.Common.{◌≡◌, ℕ, ◌≤◌, false}
use Rattle.std.proofs.Common.{arith}
use Rattle.std.proofs.lemmas.Bool.Decides.{nat_tests}
use Rattle.pm_forest.specs.declared.parts.Counts.{Counts}
use Rattle.pm_forest.specs.Forest.{Hierarchy, record_count}
use Rattle.pm_forest.specs.Faces.{no_face_corners}
use Rattle.pm_forest.specs.Places.{no_root}
use Rattle.pm_forest.specs.Rules.{counts_are_bad, counts_of, HasShape}
use Rattle.pm_forest.specs.Shaping.{HasBegun}
use Rattle.pm_forest.proofs.UnitLaws.{counts_fit}
use Rattle.pm_prefix.specs.Prefix.{first_records}
use Rattle.pm_prefix.proofs.Begins.{made_begins, begun_total}
use Rattle.pm_prefix.proofs.Ranks.{leaf_in-lt, holds_in}
use Rattle.pm_prefix.proofs.Parts.{root_count-first, base_count-first, record_count-first}
use Rattle.pm_prefix.proofs.Parts.{root_at-first, base_at-first, record_at-first, s_of-first}
use Rattle.pm_prefix.proofs.Intervals.{leaf_count-first, intervals_are, forest_shape-first}
use Rattle.pm_prefix.proofs.Intervals.{root_of-first}
use Rattle.pm_prefix.proofs.FirstFaces.{first_face-first}
use Rattle.pm_prefix.proofs.Nodes.{HasNodes}
use Rattle.pm_prefix.proofs.ShapeTests.{counts_pass}
use Rattle.pm_prefix.proofs.ShapeNodes.{AreFirst}
use Rattle.pm_prefix.proofs.ShapeUnits.{nodes_of_begun, units_of_begun}
use Rattle.pm_prefix.proofs.ShapeRoots.{roots_fit}
use Rattle.pm_prefix.proofs.ShapeFaces.{bases_fit_in, none_past}
use Rattle.pm_prefix.proofs.ShapeRecords.{records_fit_in}

are_first : (h : Hierarchy) → HasNodes h → (n : ℕ) → n ≤ record_count h
    → AreFirst h n (first_records h n)
are_first h nodes n l = record {
  most = l;
  root_count = root_count-first h n;
  roots = λ v m. root_at-first h n v no_root m;
  base_count = base_count-first h n;
  bases = λ f m. base_at-first h n f no_face_corners m;
  count = record_count-first h n;
  records = record_at-first h n;
  nodes = s_of-first h n;
  faces = first_face-first h n;
  begin = λ v m. made_begins h nodes n v l m;
  total = begun_total h nodes n l;
  leaves = leaf_count-first h nodes n l;
  intervals = intervals_are h nodes n l;
  leaf = leaf_in-lt h nodes n l;
  forest = forest_shape-first h nodes n l;
  held = holds_in h nodes n l;
  owners = root_of-first h nodes n l;
}

-- without roots there are no leaves
no_leaves : (c : Counts) → counts_are_bad c ≡ false → c.roots ≡ 0 → c.leaves ≡ 0
unfolding counts_are_bad
no_leaves c fit none = grind (arith, nat_tests)

counts_right : (c : Counts) (h : Hierarchy) → HasBegun c h → (n : ℕ) → n ≤ record_count h →
    counts_are_bad (counts_of (first_records h n)) ≡ false
counts_right c h begun n l =
    let fits = counts_fit c begun.counts in
    let roots = root_count-first h n in
    let bases = base_count-first h n in
    let count = record_count-first h n in
    let leaves = leaf_count-first h (nodes_of_begun c h begun) n l in
    let all_roots = begun.all_roots in
    let all_bases = begun.all_bases in
    let few = begun.few in
    counts_pass (counts_of (first_records h n)) (omega arith) (omega arith) (omega arith)
    (λ none. omega (arith, no_leaves c begun.counts (omega arith))) (omega arith)

pub first_records_have_shape : (c : Counts) (h : Hierarchy) → HasBegun c h → (n : ℕ)
    → n ≤ record_count h → HasShape (first_records h n)
first_records_have_shape c h begun n l =
    let g = first_records h n in
    let units = units_of_begun c h begun in
    let are = are_first h (nodes_of_begun c h begun) n l in
    record {
      counts = counts_right c h begun n l;
      roots = roots_fit h units n g are;
      bases = bases_fit_in h units n g are;
      records = records_fit_in h units n g are;
      inputs = none_past h units n g are;
    }
