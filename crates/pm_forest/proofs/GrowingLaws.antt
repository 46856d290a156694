-- A forest that grows, before its first unit, and when each kind of unit may come next.
use Rattle.std.proofs.Common.{◌≡◌, ◌+◌, ◌*◌, ◌<◌, ◌≤◌, Bool, true, false, cond, List, [], length}
use Rattle.std.proofs.lemmas.Grind.{common_steps}
use Rattle.std.proofs.Common.{replicate, None, Some, Option, is_some, inr, refl, ap, ◌∙◌, arith}
use Rattle.std.proofs.lemmas.List.{length-replicate}
use Rattle.std.specs.Prelude.{IfSome}
use Rattle.pm_base.specs.Counts.{one_if}
use Rattle.pm_forest.specs.declared.parts.Root.{Root}
use Rattle.pm_forest.specs.declared.parts.Face.{Face}
use Rattle.pm_forest.specs.declared.parts.Record.{Record}
use Rattle.pm_forest.specs.Forest.{node_count, record_count, interval_of, splitter_of}
use Rattle.pm_forest.specs.Forest.{HasForestShape}
use Rattle.pm_forest.specs.Faces.{face_count}
use Rattle.pm_forest.specs.Rules.{counts_are_bad}
use Rattle.pm_forest.specs.Tables.{Grown, grown, Parts, IsGrowing, most_faces, WithoutFaces}
use Rattle.pm_forest.specs.Tables.{record_total, units}
use Rattle.pm_forest.proofs.UnitLaws.{counts_fit}
use Rattle.pm_forest.proofs.GrowingTables.{no_tables}

pub no_shape : (roots : List Root) (bases : List Face) → HasForestShape (units roots bases [] None)
no_shape roots bases = grind (arith, common_steps)

pub none_coming : (coming : Option Record) → one_if (is_some coming) ≡ 0 → coming ≡ None
none_coming None zero = refl
none_coming (Some r) zero = absurd (omega arith)

pub some_coming : (coming : Option Record) → is_some coming ≡ true
    → (r : Record) × (coming ≡ Some r)
some_coming None there = absurd cc
some_coming (Some r) there = (r, refl)

-- Nothing is there yet, and all memory.
pub record StartsEmpty (p : Parts) : Type 0 where
  pub no_roots : p.roots.items ≡ []
  pub root_room : p.counts.roots ≤ p.roots.spare
  pub no_bases : p.bases.items ≡ []
  pub base_room : p.counts.bases ≤ p.bases.spare
  pub no_records : p.records.items ≡ []
  pub record_room : p.counts.records ≤ p.records.spare
  pub no_coming : p.coming ≡ None
  pub no_owners : p.owners.items ≡ []
  pub owner_room : p.counts.leaves ≤ p.owners.spare
  pub no_faces : p.faces.items ≡ []
  pub face_room : most_faces p.counts ≤ p.faces.spare
  pub no_revealed : p.revealed.items ≡ []
  pub revealed_room : most_faces p.counts ≤ p.revealed.spare
  pub intervals : p.intervals ≡ replicate (p.counts.roots + 2 * p.counts.records) (0, 0)
  pub splitters : p.splitters ≡ replicate (p.counts.roots + 2 * p.counts.records) None
  pub leaf_nodes : p.leaf_nodes ≡ replicate p.counts.leaves 0

pub started : (p : Parts) → counts_are_bad p.counts ≡ false → StartsEmpty p → IsGrowing p
started p fit e =
    let (leaf_most, base_most, root_most, all_leaves) = counts_fit p.counts fit in
    let nodes = p.counts.roots + 2 * p.counts.records in
    let roots = ap length e.no_roots in
    let bases = ap length e.no_bases in
    let records : record_total p.records.items p.coming ≡ 0 =
    (rw (e.no_records, e.no_coming) refl) in
    let list = ap length e.no_records in
    let owners = ap length e.no_owners in
    let faces = ap length e.no_faces in
    record {
      leaf_most = leaf_most;
      base_most = base_most;
      all_leaves = omega arith;
      root_most = omega arith;
      root_room = omega arith;
      base_count = omega arith;
      base_room = omega arith;
      record_most = omega arith;
      record_room = omega arith;
      order = record { roots_first = inr (omega arith); bases_first = inr records };
      owned = rw (e.no_owners, e.no_roots) refl;
      owner_len = rw (e.no_owners, e.no_roots) refl;
      owner_most = omega arith;
      owner_room = omega arith;
      interval_len = ap length e.intervals ∙ length-replicate nodes (0, 0);
      splitter_len = ap length e.splitters ∙ length-replicate nodes None;
      leaf_node_len = ap length e.leaf_nodes ∙ length-replicate p.counts.leaves 0;
      face_most = omega arith;
      face_total = omega arith;
      face_room = omega arith;
      revealed_room = omega arith;
      shape = rw (e.no_coming, e.no_records) (no_shape p.roots.items p.bases.items);
      tables =
          rw (
            e.no_roots,
            e.no_bases,
            e.no_records,
            e.no_coming,
            e.intervals,
            e.splitters,
            e.leaf_nodes,
            e.no_faces,
            e.no_revealed,
          )
          (no_tables nodes p.counts.leaves);
    }

-- What contracts see of a forest with these parts.
abbrev pub seen : Parts → Grown
seen p = record {
  counts = p.counts;
  h = units p.roots.items p.bases.items p.records.items None;
  coming = p.coming;
}

-- When a record may come next.
pub record TakesRecord (g : Grown) (r : Record) : Type 0 where
  pub settled : g.coming ≡ None
  pub roots : length g.h.roots ≡ g.counts.roots
  pub bases : length g.h.bases ≡ g.counts.bases
  pub next : record_count g.h < g.counts.records
  pub faces : WithoutFaces r
  pub node : r.s < node_count g.h
  pub unsplit : splitter_of g.h r.s ≡ None
  pub first : 0 < r.width
  pub rest : (interval_of g.h r.s).from + r.width < (interval_of g.h r.s).until

-- When a left face or a right face may come next.
pub record TakesFace (g : Grown) (left : Bool) : Type 0 where
  pub there : is_some g.coming ≡ true
  pub free : IfSome g.coming (λ r. is_some (cond left r.left r.right) ≡ false)
  pub in_order : IfSome g.coming (λ r. left ≡ true → is_some r.right ≡ false)
  pub few : face_count (grown g) < 1048576
