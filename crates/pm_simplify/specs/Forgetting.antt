-- The keys that go with a face.
use Rattle.std.specs.Prelude.{ℕ, ◌+◌, ◌*◌, Option, Some, None, slice_set}
use Rattle.pm_base.specs.declared.ids.Side.{Side}
use Rattle.pm_base.specs.declared.log.Gone.{Gone}
use Rattle.pm_queue.specs.Entries.{Entries}

-- The entries with no key at the number of a side, if there is one.
abbrev pub without_key : Entries → Option Side → Entries
without_key m None = m
without_key m (Some s) = slice_set m s.0 None

-- The entries with no key at the numbers of a face's sides.
abbrev pub without_keys_of : Entries → ℕ → Entries
without_keys_of m f =
    slice_set (slice_set (slice_set m (3 * f) None) (3 * f + 1) None) (3 * f + 2) None

-- The entries with no key at the numbers of a dropped face's sides, nor of what stood across two of
-- them.
abbrev pub forgotten : Entries → Option Gone → Entries
forgotten m None = m
forgotten m (Some g) = without_key (without_key (without_keys_of m g.face.0) g.first) g.second
