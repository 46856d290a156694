-- Places between a node's elder and the node itself.
use Rattle.std.specs.Prelude.{ℕ, ◌-◌, ℤ, pos, ◌+ℤ◌, ◌*ℤ◌, Bool}
use Rattle.std.specs.Int.{int_div_euclid}
use Rattle.pm_base.specs.Place.{Place}
use Rattle.pm_forest.specs.Forest.{Hierarchy}
use Rattle.pm_forest.specs.Places.{place_of_node}
use Rattle.pm_morph.specs.Elders.{elder_of}

-- A coordinate at a/b of the way from the elder's to the node's own, rounded down.
abbrev pub interpolated : ℕ → ℕ → ℤ → ℤ → ℤ
interpolated a b elder own = int_div_euclid (pos (b - a) *ℤ elder +ℤ pos a *ℤ own) (pos b)

abbrev pub place_between : ℕ → ℕ → Place → Place → Place
place_between a b elder own =
    record {
      x = interpolated a b elder.x own.x;
      y = interpolated a b elder.y own.y;
      z =
          interpolated a b elder.z own.z;
    }

-- The place of node v at a/b, where T is the marked front.
unfoldable pub morph_place_at : Hierarchy → (ℕ → Bool) → ℕ → ℕ → ℕ → Place
morph_place_at h T a b v = place_between a b (place_of_node h (elder_of h T v)) (place_of_node h v)
