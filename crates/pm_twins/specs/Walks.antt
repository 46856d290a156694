-- The walk round a vertex that decides whether its faces are a fan.
use Rattle.std.specs.Prelude.{◌≡◌, ◌≢◌, ℕ, ◌+◌, ◌<◌, ◌≤◌, ◌==◌, Bool, cond, ◌&&◌, Option, Some}
use Rattle.std.specs.Prelude.{None, List, ◌⊎◌}
use Rattle.pm_base.specs.declared.ids.Side.{Side}
use Rattle.pm_base.specs.declared.limits.TheConstants.{MOST_FACES}
use Rattle.pm_base.specs.Sides.{Net, side_count, Stands, stands, NoSideTwice, twin_of}
use Rattle.pm_base.specs.Counts.{count}
use Rattle.pm_twins.specs.Table.{AreTwinsOf}
use Rattle.pm_twins.specs.declared.fans.Vertex.{Vertex}

abbrev pub begins_at : Net → ℕ → ℕ → Bool
begins_at m v e = stands m e && (m.from e == v)

-- How many faces have vertex v as a corner.
abbrev pub degree : Net → ℕ → ℕ
degree m v = count (begins_at m v) (side_count m)

-- A walk may start at side a: it has no twin, or every side that runs from the same vertex has one.
abbrev pub IsStart : Net → ℕ → Type 0
IsStart m a =
    (twin_of m a ≡ None) ⊎ ((g : ℕ) → g < side_count m → m.from g ≡ m.from a → twin_of m g ≢ None)

-- A list of faces with the twins of their sides can be walked.
pub record IsWalkable (m : Net) (table : List (Option ℕ)) : Type 0 where
  pub short : m.faces ≤ MOST_FACES
  pub stands : (e : ℕ) → e < side_count m → Stands m e
  pub once : NoSideTwice m
  pub twins : AreTwinsOf m table

-- What is known of a vertex once one more side is, that runs from it.
abbrev pub first_given : Option Side → Side → Option Side
first_given None e = Some e
first_given (Some a) e = Some a

abbrev pub with_side : Vertex → Side → Bool → Vertex
with_side v e alone = record {
  degree = v.degree + 1;
  start = cond alone (Some e) (first_given v.start e);
}

-- Of the first n sides none runs from v, or this is where the walk is to start.
abbrev pub StartsSoFar : Net → ℕ → ℕ → Option Side → Type 0
StartsSoFar m n v None = (e : ℕ) → e < n → m.from e ≢ v
StartsSoFar m n v (Some a) =
    (a.0 < n) × (m.from a.0 ≡ v)
    × ((twin_of m a.0 ≡ None) ⊎ ((g : ℕ) → g < n → m.from g ≡ v → twin_of m g ≢ None))

abbrev pub no_vertex : Vertex
no_vertex = record { degree = 0; start = None }

-- What the first n sides say of vertex v.
pub record IsKnown (m : Net) (n v : ℕ) (known : Vertex) : Type 0 where
  pub degree : known.degree ≡ count (begins_at m v) n
  pub start : StartsSoFar m n v known.start
