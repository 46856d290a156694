-- The base front: no record is split.
use Rattle.std.proofs.Common.{◌≡◌, ℕ, ◌*◌, Bool, false, List, Option, replicate, ap, arith}
use Rattle.std.proofs.lemmas.Grind.{common_steps}
use Rattle.std.proofs.Common.{◌∙◌}
use Rattle.std.proofs.lemmas.Bool.{false≢true}
use Rattle.std.proofs.lemmas.List.{length-replicate}
use Rattle.pm_base.specs.Sides.{NoSideTwice}
use Rattle.pm_links.specs.Lists.{Lists}
use Rattle.pm_forest.specs.Forest.{Hierarchy, node_count, record_count}
use Rattle.pm_forest.specs.Fronts.{no_records, IsFront}
use Rattle.pm_base.specs.Counts.{set_of}
use Rattle.pm_forest.specs.Faces.{face_count}
use Rattle.pm_forest.specs.Rules.{HasShape}
use Rattle.pm_forest.proofs.Flags.{set_of-unset}
use Rattle.pm_beyond.specs.Walks.{leaf_net}
use Rattle.pm_sides.specs.Stored.{AreStored}
use Rattle.pm_front.specs.Active.{AreActive, AreShown}
use Rattle.pm_front.specs.Corners.{base_lists}
use Rattle.pm_front.specs.Members.{Members}
use Rattle.pm_front.specs.State.{AreFrontTables}
use Rattle.pm_front.proofs.OpenedLists.{base-right}

base-front : (h : Hierarchy) → IsFront h no_records
base-front h k j l e made = absurd (false≢true e)

module _ (h : Hierarchy) (flags : List Bool) (none : flags ≡ replicate (record_count h) false) where
  pub unset : set_of flags ≡ no_records
  unset = ap set_of none ∙ set_of-unset (record_count h)

  -- All of it at once.
  pub base-refined : HasShape h → NoSideTwice (leaf_net h)
      → (corners : Lists) (active kept : Members) (table : List (Option ℕ)) →
      corners.items ≡ 3 * face_count h → corners.lists ≡ base_lists h → active.bound ≡ node_count h
      → AreActive h no_records active.list →
      kept.bound ≡ face_count h → AreShown h no_records kept.list → AreStored h no_records table
      → AreFrontTables h flags corners active kept table
  base-refined shape once corners active kept table items lists bound nodes kept_bound faces
      beyond =
      grind (arith, common_steps, base-front, base-right, length-replicate, unset)
