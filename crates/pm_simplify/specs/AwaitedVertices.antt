-- At which vertices pairs may wait for a face.
use Rattle.std.specs.Prelude.{◌≡◌, ℕ, Bool, true, false, List, [], slice_index_or}
use Rattle.pm_base.specs.Sides.{Net, face_of, Stands}
use Rattle.pm_links.specs.Lists.{Lists, list_of}

-- A vertex past the flags counts as flagged.
abbrev pub is_awaited : List Bool → ℕ → Bool
is_awaited flags v = slice_index_or flags v true

-- Where a pair waits for a face, the three vertices of the face are flagged.
abbrev pub AreAwaited : Net → Lists → List Bool → Type 0
AreAwaited n lists flags =
    (e : ℕ) → Stands n e → is_awaited flags (n.from e) ≡ false → list_of lists (face_of e) ≡ []
