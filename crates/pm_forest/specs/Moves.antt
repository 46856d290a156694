-- What a front answers to a split (Hoppe 1997, with borders: a missing neighbour asks nothing).
use Rattle.std.specs.Prelude.{ℕ, Bool, not, ◌&&◌, List, [], ◌∷◌, ◌++◌, Option, Some, None}
use Rattle.std.specs.Prelude.{if◌then◌else◌}
use Rattle.pm_base.specs.declared.ids.Side.{Side}
use Rattle.pm_base.specs.Sides.{face_of}
use Rattle.pm_forest.specs.declared.parts.NewFace.{NewFace}
use Rattle.pm_forest.specs.declared.parts.Record.{Record}
use Rattle.pm_forest.specs.Forest.{Hierarchy, record_at, s_of}
use Rattle.pm_forest.specs.Fronts.{is_active}
use Rattle.pm_forest.specs.Kept.{is_kept}

-- The recorded neighbour, if there is one, by its side's number.
abbrev pub side_in : Option Side → List ℕ
side_in None = []
side_in (Some e) = e.0 ∷ []

-- Those that there are, in order.
abbrev pub sides_in : List (Option Side) → List ℕ
sides_in [] = []
sides_in (x ∷ xs) = side_in x ++ sides_in xs

abbrev pub neighbours_in : Option NewFace → List ℕ
neighbours_in None = []
neighbours_in (Some n) = side_in n.first ++ side_in n.second

-- The sides recorded beyond the outer sides of a record's faces: left first, left second, right
-- first, right second.
abbrev pub neighbours_of : Record → List ℕ
neighbours_of r = neighbours_in r.left ++ neighbours_in r.right

-- The sides recorded beyond the two outer sides of a new face; none where the face isn't there.
abbrev pub places_in : Option NewFace → List (Option Side)
places_in None = None ∷ None ∷ []
places_in (Some n) = n.first ∷ n.second ∷ []

-- The four places of neighbours of a record, in the order of neighbours_of.
abbrev pub neighbour_places_of : Record → List (Option Side)
neighbour_places_of r = places_in r.left ++ places_in r.right

-- The face of the first of these sides whose face isn't kept.
abbrev pub first_dropped : Hierarchy → (ℕ → Bool) → List ℕ → Option ℕ
first_dropped h T [] = None
first_dropped h T (e ∷ es) = if is_kept h T (face_of e) then first_dropped h T es
    else Some (face_of e)

-- A split of record k may be tried where its node is active and it isn't split.
abbrev pub may_try : Hierarchy → (ℕ → Bool) → ℕ → Bool
may_try h T k = is_active h T (s_of h k) && not (T k)

-- The face that blocks a split of record k that may be tried.
abbrev pub blocking : Hierarchy → (ℕ → Bool) → ℕ → Option ℕ
blocking h T k = first_dropped h T (neighbours_of (record_at h k))
