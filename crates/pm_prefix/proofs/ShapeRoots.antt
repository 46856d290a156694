-- The roots of the first records have no fault.
use Rattle.std.proofs.Common.{◌≡◌, ℕ, zero, suc, ◌+◌, ◌-◌, ◌<◌, ◌≤◌, true, false, List, []}
use Rattle.std.proofs.Common.{length, sum, get_or, take, All, None, refl, ap, ◌∙◌}
use Rattle.std.proofs.Common.{arith}
use Rattle.std.proofs.lemmas.List.{take_more, take_all, length-take-le}
use Rattle.std.proofs.lemmas.List.Elements.{All-from_get_or}
use Rattle.pm_base.specs.Place.{is_place}
use Rattle.pm_forest.specs.declared.parts.Counts.{Counts}
use Rattle.pm_forest.specs.declared.parts.Root.{Root}
use Rattle.pm_forest.specs.Forest.{Hierarchy, widths_of, leaf_count}
use Rattle.pm_forest.specs.Places.{no_root}
use Rattle.pm_forest.specs.Rules.{counts_of, root_inputs, vertex_input_is_bad}
use Rattle.pm_forest.specs.Rules.{width_is_bad, root_fault, AllFit}
use Rattle.pm_forest.proofs.ShapingLaws.{widths_push}
use Rattle.pm_prefix.specs.Prefix.{root_in}
use Rattle.pm_prefix.proofs.ShapeTests.{AllFit-from, width_passes}
use Rattle.pm_prefix.proofs.ShapeNodes.{AreUnits, AreFirst, wide, root_passes}

-- Widths

widths_more : (roots : List Root) (v : ℕ) → v < length roots →
    sum (widths_of (take (v + 1) roots))
    ≡ sum (widths_of (take v roots)) + (get_or roots v no_root).width
widths_more roots v l =
    ap (λ rs. sum (widths_of rs)) (take_more roots v no_root l)
    ∙ widths_push (take v roots) (get_or roots v no_root)

-- where each root has a leaf, those that come later have room
later_room : (roots : List Root) → All (λ r. 0 < r.width) roots → (d v : ℕ) →
    v + d ≡ length roots → sum (widths_of (take v roots)) + d ≤ sum (widths_of roots)
later_room roots some zero v all =
    let whole : take v roots ≡ roots = take_all v roots (omega arith) in
    rw whole (omega arith)
later_room roots some (suc d) v all =
    let here : 0 < (get_or roots v no_root).width = some v no_root (omega arith) in
    omega (arith, widths_more roots v (omega arith), later_room roots some d (v + 1) (omega arith))

-- Faults

root_unfaulted : (c : Counts) (before : List Root) (r : Root) → is_place r.place ≡ true →
    width_is_bad c (sum (widths_of before)) (length before) r.width ≡ false →
    vertex_input_is_bad c.leaves (root_inputs before) r.width r.input ≡ false →
    root_fault c before r ≡ None
unfolding root_fault
root_unfaulted c before r place width input = rw (place, width, input) refl

module _ (h : Hierarchy) (units : AreUnits h) (n : ℕ) (g : Hierarchy) (are : AreFirst h n g) where
  place_in : (v : ℕ) → v < length h.roots → is_place (root_in h n v).place ≡ true
  unfolding root_in
  place_in v m = units.places v m

  root_is_wide : (v : ℕ) → v < length h.roots → 0 < (root_in h n v).width
  unfolding root_in
  root_is_wide v m = wide h units n g are v (omega arith)

  roots_are_wide : All (λ r. 0 < r.width) g.roots
  roots_are_wide =
      All-from_get_or (λ (r : Root). 0 < r.width) g.roots no_root
      (λ v m.
      let there : v < length h.roots = omega (arith, are.root_count) in
      rw (are.roots v there) (root_is_wide v there))

  width_fits : (v : ℕ) → v < length h.roots →
      width_is_bad (counts_of g) (sum (widths_of (take v g.roots))) (length (take v g.roots))
      (root_in h n v).width ≡ false
  width_fits v m =
      let roots = are.root_count in
      let before = length-take-le v g.roots (omega arith) in
      let next = widths_more g.roots v (omega arith) in
      let same : (get_or g.roots v no_root).width ≡ (root_in h n v).width =
      ap (λ r. r.width) (are.roots v m) in
      let room = later_room g.roots roots_are_wide (length g.roots - (v + 1)) (v + 1)
      (omega arith) in
      width_passes (counts_of g) (sum (widths_of (take v g.roots))) (length (take v g.roots))
      (root_in h n v).width (root_is_wide v m) (omega arith)
      (λ last.
      let whole : take (v + 1) g.roots ≡ g.roots = take_all (v + 1) g.roots (omega arith) in
      omega (arith, ap (λ rs. sum (widths_of rs)) whole))

  input_fits : (v : ℕ) → v < length h.roots →
      vertex_input_is_bad (leaf_count g) (root_inputs (take v g.roots)) (root_in h n v).width
      (root_in h n v).input ≡ false
  unfolding root_in
  input_fits v m = root_passes h units n g are v m

  pub roots_fit : AllFit (root_fault (counts_of g)) [] g.roots
  roots_fit =
      AllFit-from (root_fault (counts_of g)) [] g.roots no_root
      (λ v m.
      let there : v < length h.roots = omega (arith, are.root_count) in
      rw (are.roots v there)
      (root_unfaulted (counts_of g) (take v g.roots) (root_in h n v) (place_in v there)
      (width_fits v there) (input_fits v there)))
