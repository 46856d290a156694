-- What is right with the units of a hierarchy that has begun.
use Rattle.std.proofs.Common.{◌≡◌, ℕ, ◌<◌, true, List, [], length, get_or, take}
use Rattle.std.proofs.lemmas.Grind.{common_steps}
use Rattle.std.proofs.Common.{All, None, not, sym, ◌∙◌, arith}
use Rattle.std.proofs.lemmas.Bool.{or_parts, not-false}
use Rattle.std.proofs.lemmas.List.{get_or_default}
use Rattle.std.proofs.lemmas.List.Elements.{All-map}
use Rattle.pm_base.specs.Place.{is_place}
use Rattle.pm_forest.specs.declared.parts.Counts.{Counts}
use Rattle.pm_forest.specs.declared.parts.Root.{Root}
use Rattle.pm_forest.specs.declared.parts.Face.{Face}
use Rattle.pm_forest.specs.Forest.{Hierarchy, no_record, record_at, record_count, widths, s_of}
use Rattle.pm_forest.specs.Forest.{t_of, interval_of, HasForestShape}
use Rattle.pm_forest.specs.Places.{no_root}
use Rattle.pm_forest.specs.Rules.{root_fault, base_is_bad, base_fault, head_fault, head_is_bad}
use Rattle.pm_forest.specs.Rules.{record_fault, record_fault_after}
use Rattle.pm_forest.specs.Shaping.{SplitFits, HasBegun}
use Rattle.pm_forest.proofs.Nodes.{interval-kept}
use Rattle.pm_forest.proofs.UnitLaws.{AllFit-at, AllFit-all, passed, first_none, counts_fit}
use Rattle.pm_forest.proofs.UnitLaws.{root_wide, BaseFits, base_fits, split_fits}
use Rattle.pm_forest.proofs.Prefix.{cut, record_count-cut, s_of-cut, interval_of-cut}
use Rattle.pm_forest.proofs.SameSplit.{unsplit}
use Rattle.pm_forest.proofs.ShapeLaws.{RecordFits}
use Rattle.pm_prefix.proofs.Nodes.{HasNodes, some_leaves}
use Rattle.pm_prefix.proofs.ShapeNodes.{AreUnits}

root_place : (c : Counts) (before : List Root) (r : Root) → root_fault c before r ≡ None →
    is_place r.place ≡ true
unfolding root_fault
root_place c before r fits =
    not-false (is_place r.place) (passed (not (is_place r.place)) _ _ fits).0

module _ (c : Counts) (h : Hierarchy) (begun : HasBegun c h) where
  record_right : (k : ℕ) → k < record_count h → RecordFits h k
  unfolding record_fault
  record_right k l =
      let r = record_at h k in
      let is : r ≡ get_or h.records k r = get_or_default h.records k no_record r l in
      let fits : record_fault (cut h k) r ≡ None =
      AllFit-at (record_fault_after h.roots h.bases) [] h.records k r begun.records l is in
      let parts = first_none _ _ fits in
      let faces = first_none _ _ parts.1 in
      record { head = parts.0; left = faces.0; right = faces.1 }

  split_right : (k : ℕ) → k < record_count h → SplitFits (cut h k) (s_of h k) (record_at h k).width
  unfolding head_fault head_is_bad s_of
  split_right k l =
      let head = (record_right k l).head in
      grind (arith, common_steps, cut, or_parts, passed, split_fits)

  forest_of_begun : HasForestShape h
  forest_of_begun =
      let older : (k : ℕ) → k < record_count h → s_of h k < t_of h k = λ k l.
      omega (arith, (split_right k l).node, record_count-cut h k (omega arith)) in
      record {
        older = older;
        once = λ j k a l.
            let earlier : j < record_count (cut h k) = omega (arith, record_count-cut h k) in
            rw (← s_of-cut h k j a)
            (unsplit (cut h k) (s_of h k) (split_right k l).unsplit j earlier);
        width = λ k l.
            let before = older k l in
            let same : interval_of (cut h k) (s_of h k) ≡ interval_of h (s_of h k) =
            interval_of-cut h k (s_of h k) (omega arith)
            ∙ sym (interval-kept h k (record_count h) (s_of h k) (omega arith) before) in
            ((split_right k l).first, rw same at (split_right k l).rest);
      }

  wide_roots : All (λ w. 0 < w) (widths h)
  wide_roots =
      All-map (λ w. 0 < w) (λ (r : Root). r.width) h.roots
      (AllFit-all (root_fault c) (λ r. 0 < r.width) (root_wide c) [] h.roots begun.roots)

  pub nodes_of_begun : HasNodes h
  nodes_of_begun = record { nodes = forest_of_begun; wide = wide_roots }

  places_right : (v : ℕ) → v < length h.roots → is_place (get_or h.roots v no_root).place ≡ true
  places_right v l =
      let r = get_or h.roots v no_root in
      root_place c (take v h.roots) r
      (AllFit-at (root_fault c) [] h.roots v r begun.roots l
      (get_or_default h.roots v no_root r l))

  bases_right : All (BaseFits h.roots) h.bases
  unfolding base_fault
  bases_right =
      let fits : (before : List Face) (f : Face) → base_fault h.roots before f ≡ None
      → BaseFits h.roots f = λ before f none.
      base_fits h.roots f (passed (base_is_bad h.roots f) _ _ none).0 in
      AllFit-all (base_fault h.roots) (BaseFits h.roots) fits [] h.bases begun.bases

  pub units_of_begun : AreUnits h
  units_of_begun = record {
    forest = forest_of_begun;
    some = some_leaves h nodes_of_begun;
    places = places_right;
    base_most = omega (arith, (counts_fit c begun.counts).1, begun.all_bases);
    bases = bases_right;
    records = record_right;
  }
