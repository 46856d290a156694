-- The places of nodes.
use Rattle.std.specs.Prelude.{ℕ, ◌-◌, ◌/◌, ◌%◌, ◌==◌, nat_lt, length, pos, slice_index_or}
use Rattle.std.specs.Prelude.{if◌then◌else◌}
use Rattle.pm_base.specs.Place.{Place}
use Rattle.pm_forest.specs.declared.parts.Root.{Root}
use Rattle.pm_forest.specs.Forest.{Hierarchy, record_at}

abbrev pub no_root : Root
no_root = record { place = record { x = pos 0; y = pos 0; z = pos 0 }; width = 0; input = 0 }

-- The place of node v: that of a root, or of the first or the second child of a record.
unfoldable pub place_of_node : Hierarchy → ℕ → Place
place_of_node h v =
    if nat_lt v (length h.roots) then (slice_index_or h.roots v no_root).place
    else if (v - length h.roots) % 2 == 0 then (record_at h ((v - length h.roots) / 2)).t.place
    else (record_at h ((v - length h.roots) / 2)).u.place
