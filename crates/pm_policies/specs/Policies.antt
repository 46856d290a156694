-- What a run goes by: which planes a vertex stands for, the place of a pair and where it is put,
-- and which vertices are kept. From these comes the key of a pair.
use Rattle.std.specs.Prelude.{ℕ, ◌==◌, Bool, cond, List, [], ◌∷◌, ◌++◌}
use Rattle.pm_base.specs.Place.{Place}
use Rattle.pm_base.specs.declared.log.Collapse.{Collapse}
use Rattle.pm_base.specs.Meshes.{Mesh}
use Rattle.pm_quadric.specs.Planes.{Plane, squares_of}
use Rattle.pm_quadric.specs.Candidates.{least_place}
use Rattle.pm_queue.specs.declared.key.Key.{Key}
use Rattle.pm_runs.specs.Surfaces.{Surface, surface_of, place_at}
use Rattle.pm_runs.specs.Planes.{planes_at, planes_from}
use Rattle.pm_runs.specs.Runs.{after_entry, surface_after}
use Rattle.pm_keeping.specs.Keeping.{none_kept}

pub record Policy : Type 0 where
  -- The planes that an input vertex brings. Those of both ends of a pair are those of the vertex
  -- made of it.
  pub brought : Mesh → ℕ → List Plane
  -- The planes that a vertex takes of the surface in which it is first there.
  pub taken : Surface → ℕ → List Plane
  -- The place of a pair, by the planes of both ends and by their places.
  pub place : List Plane → Place → Place → Place
  -- Where a pair with this place is put, if it is legal there.
  pub put : Surface → ℕ → ℕ → Place → Place
  -- The vertices that no collapse may take.
  pub kept : ℕ → Bool

-- The vertex that a collapse makes takes its planes of the surface after it. Other vertices have
-- those that they took.
abbrev pub taken_next : Policy → Surface → (ℕ → List Plane) → Collapse → ℕ → List Plane
taken_next p s planes c v = cond (v == c.s) (p.taken (after_entry s c) v) (planes v)

abbrev pub taken_from : Policy → Surface → (ℕ → List Plane) → List Collapse → ℕ → List Plane
taken_from p s planes [] = planes
taken_from p s planes (c ∷ cs) = taken_from p (after_entry s c) (taken_next p s planes c) cs

-- The planes that a vertex has taken after the collapses of a log.
unfoldable pub taken_after : Policy → Mesh → List Collapse → ℕ → List Plane
taken_after p m log = taken_from p (surface_of m) (p.taken (surface_of m)) log

-- The planes brought by all input vertices merged in a vertex, a plane as often as it comes in.
unfoldable pub brought_after : Policy → Mesh → List Collapse → ℕ → List Plane
brought_after p m log = planes_from (p.brought m) log

-- All planes that a vertex stands for.
abbrev pub planes_by : Policy → Mesh → List Collapse → ℕ → List Plane
planes_by p m log v = taken_after p m log v ++ brought_after p m log v

-- Those of both ends of a pair.
abbrev pub pair_planes_by : Policy → Mesh → List Collapse → ℕ → ℕ → List Plane
pair_planes_by p m log a b = planes_by p m log a ++ planes_by p m log b

-- The place of a pair after the collapses of a log.
abbrev pub place_by : Policy → Mesh → List Collapse → ℕ → ℕ → Place
place_by p m log a b =
    let s = surface_after m log in
    p.place (pair_planes_by p m log a b) (place_at s a) (place_at s b)

-- Its key: the sum of the squared values of its planes there, then the first vertex, then the
-- second.
abbrev pub key_by : Policy → Mesh → List Collapse → ℕ → ℕ → Key
key_by p m log a b = record {
  cost = squares_of (pair_planes_by p m log a b) (place_by p m log a b);
  a = a;
  b = b;
}

-- The policy of the run to a number of faces that keeps these vertices: planes are brought and none
-- is taken, the place is an end or the midpoint, and there a pair is put (after Garland and
-- Heckbert 1997).
abbrev pub plain_keeping : (ℕ → Bool) → Policy
plain_keeping kept = record {
  brought = planes_at;
  taken = λ s v. [];
  place = λ planes a b. least_place (squares_of planes) a b;
  put = λ s a b place. place;
  kept = kept;
}

-- That of the run to a number of faces, which keeps none.
abbrev pub plain : Policy
plain = plain_keeping none_kept
