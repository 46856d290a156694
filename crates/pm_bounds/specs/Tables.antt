-- What the tables of bounds keep.
use Rattle.std.specs.Prelude.{◌≡◌, ℕ, ◌<◌, ◌≤◌, ◌^◌, None, List, length, map, Option, IfSome}
use Rattle.std.specs.Prelude.{slice_index_or}
use Rattle.pm_base.specs.Place.{Place, origin}
use Rattle.pm_forest.specs.Forest.{Hierarchy, node_count, splitter_of}
use Rattle.pm_forest.specs.Places.{place_of_node}
use Rattle.pm_bounds.specs.declared.balls.Ball.{Ball}
use Rattle.pm_bounds.specs.declared.normal_box.NormalBox.{NormalBox}
use Rattle.pm_bounds.specs.Boxes.{IsSmallBox}
use Rattle.pm_bounds.specs.Bounds.{Bounds, bare_at, leaf_radius, over_children, box_under}

-- A list of each kind from the balls and the boxes of all nodes, and the balls by record.
abbrev pub places_of : List Ball → List Place
places_of balls = map (λ (b : Ball). b.place) balls

abbrev pub errors_of : List Ball → List ℕ
errors_of balls = map (λ (b : Ball). b.error) balls

abbrev pub radii_of : List Ball → List ℕ
radii_of balls = map (λ (b : Ball). b.radius) balls

abbrev pub bound_lists_of : List Ball → List (Option NormalBox) → List Ball → Bounds
bound_lists_of balls boxes splits = record {
  places = places_of balls;
  errors = errors_of balls;
  radii = radii_of balls;
  boxes = boxes;
  splits = splits;
}

-- One of each kind for each node, and none is large.
pub record IsBounds (b : Bounds) : Type 0 where
  pub as_many_radii : length b.radii ≡ length b.errors
  pub as_many_boxes : length b.boxes ≡ length b.errors
  pub small_errors : (v : ℕ) → v < length b.errors → slice_index_or b.errors v 0 < 2 ^ 38
  pub small_radii : (v : ℕ) → v < length b.errors → slice_index_or b.radii v 0 < 2 ^ 38
  pub small_boxes : (v : ℕ) → v < length b.errors
      → IfSome (slice_index_or b.boxes v None) IsSmallBox
  pub small_split_errors : (k : ℕ) → k < length b.splits
      → (slice_index_or b.splits k (bare_at origin)).error < 2 ^ 38
  pub small_split_radii : (k : ℕ) → k < length b.splits
      → (slice_index_or b.splits k (bare_at origin)).radius < 2 ^ 38

-- The places of all nodes.
abbrev pub ArePlaces : Hierarchy → List Place → Type 0
ArePlaces h places = (v : ℕ) → v < node_count h → slice_index_or places v origin ≡ place_of_node h v

-- Balls at the places of the first n nodes, of which no more is known yet.
pub record AreBare (h : Hierarchy) (n : ℕ) (balls : List Ball) : Type 0 where
  pub len : length balls ≡ n
  pub each : (v : ℕ) → v < n → slice_index_or balls v (bare_at origin) ≡ bare_at (place_of_node h v)

-- No number is above another, and no box is large.
abbrev pub AreAtMost : ℕ → List ℕ → Type 0
AreAtMost most numbers = (v : ℕ) → v < length numbers → slice_index_or numbers v 0 ≤ most

abbrev pub AreSmallBoxes : List (Option NormalBox) → Type 0
AreSmallBoxes boxes = (v : ℕ) → v < length boxes → IfSome (slice_index_or boxes v None) IsSmallBox

-- The places, no error yet, and of the nodes that no record splits the radii and boxes.
pub record AreOfLeaves (h : Hierarchy) (balls : List Ball) (table : List (Option NormalBox)) : Type
    0 where
  pub places : ArePlaces h (places_of balls)
  pub errors : (v : ℕ) → v < node_count h → slice_index_or (errors_of balls) v 0 ≡ 0
  pub radii : (v : ℕ) → v < node_count h → splitter_of h v ≡ None
      → slice_index_or (radii_of balls) v 0 ≡ leaf_radius h v
  pub boxes : (v : ℕ) → v < node_count h → splitter_of h v ≡ None
      → slice_index_or table v None ≡ box_under h v

-- The number of the node that record k splits, by those of its children in a table.
abbrev pub grown_at : Hierarchy → List ℕ → ℕ → ℕ
grown_at h numbers k = over_children h (λ v. slice_index_or numbers v 0) k
