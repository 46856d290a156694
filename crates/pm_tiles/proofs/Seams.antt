-- Two hierarchies show a seam in each pair of fronts.
use Rattle.std.proofs.Common.{◌≡◌, ℕ, Bool, sym, ap, ◌∙◌}
use Rattle.pm_forest.specs.Forest.{Hierarchy}
use Rattle.pm_forest.specs.Faces.{IsForest, from_leaf, to_leaf}
use Rattle.pm_forest.specs.Places.{place_of_node}
use Rattle.pm_tiles.specs.Fixed.{root_over, IsFixed, place_in_front}
use Rattle.pm_tiles.specs.Laws as law
use Rattle.pm_tiles.proofs.FixedLeaves.{is_root}
use Rattle.pm_tiles.proofs.FixedBorders.{shown_border}

-- A fixed leaf is shown at the place of its root.
stays :
    (h : Hierarchy) → IsForest h → (x : ℕ) → IsFixed h x → (T : ℕ → Bool) →
    place_in_front h T x ≡ place_of_node h (root_over h x)
stays h tree x fixed T = ap (place_of_node h) (is_root h tree x fixed T)

pub tiles_meet : law.TilesMeet
tiles_meet g h first_tree second_tree e f seam S T = record {
  first = shown_border g first_tree S e seam.first seam.first_fixed;
  second = shown_border h second_tree T f seam.second seam.second_fixed;
  forth =
      stays g first_tree (from_leaf g e) seam.first_fixed.from S ∙ seam.forth
      ∙ sym (stays h second_tree (to_leaf h f) seam.second_fixed.to T);
  back =
      stays g first_tree (to_leaf g e) seam.first_fixed.to S ∙ seam.back
      ∙ sym (stays h second_tree (from_leaf h f) seam.second_fixed.from T);
}
