-- What a collapse leaves in the log.
use Rattle.std.specs.Prelude.{ℕ, ◌==◌, Bool, ◌&&◌, Option, option_map}
use Rattle.pm_base.specs.Place.{Place}
use Rattle.pm_base.specs.declared.ids.Side.{Side}
use Rattle.pm_base.specs.declared.log.Gone.{Gone}
use Rattle.pm_base.specs.declared.log.Collapse.{Collapse}
use Rattle.pm_base.specs.Sides.{Net, side_count, face_of, next, prev, to, stands, find_below}
use Rattle.pm_base.specs.Sides.{twin_of}
use Rattle.pm_runs.specs.Surfaces.{Surface, next_vertex, net_of_surface}

abbrev pub runs_from_to : Net → ℕ → ℕ → ℕ → Bool
runs_from_to m p q e = stands m e && (m.from e == p && to m e == q)

-- The side from p to q, if a face that is there has one. There is one at most where no directed
-- side stands twice.
unfoldable pub side_from_to : Net → ℕ → ℕ → Option ℕ
side_from_to m p q = find_below (runs_from_to m p q) (side_count m)

abbrev pub side_id : ℕ → Side
side_id e = record { 0 = e }

-- The face of side e, with the twins of its two other sides.
abbrev pub gone_at : Net → ℕ → Gone
gone_at m e = record {
  face = record { 0 = face_of e };
  first = option_map side_id (twin_of m (next e));
  second = option_map side_id (twin_of m (prev e));
}

-- The face in which p is followed by q, with the twins of its two other sides; none where there is
-- no such face.
abbrev pub gone_of : Net → ℕ → ℕ → Option Gone
gone_of m p q = option_map (gone_at m) (side_from_to m p q)

-- The log's entry for the collapse of t and u to the place.
abbrev pub entry_of : Surface → ℕ → ℕ → Place → Collapse
entry_of s t u place = record {
  t = t;
  u = u;
  s = next_vertex s;
  place = place;
  left = gone_of (net_of_surface s) t u;
  right = gone_of (net_of_surface s) u t;
}
