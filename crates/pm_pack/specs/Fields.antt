-- Where in a stream text a word stands. The fields are numbered in the order of docs/FORMATS.md: 0
-- to 6 the header, 7 to 11 a root, 12 to 15 a base face, 16 to 26 the head of a record, 27 to 32 a
-- new face.
use Rattle.std.specs.Prelude.{ℕ, ◌+◌, ◌-◌, ◌==◌, ◌||◌, nat_lt, nat_le, Bool, if◌then◌else◌}
use Rattle.pm_pack.specs.declared.fields.Spot.{Spot}

-- The field that the next word is, and how many roots, base faces and new faces follow its unit.
abbrev pub spot : ℕ → ℕ → ℕ → ℕ → Spot
spot field roots bases faces =
    record { field = field; roots = roots; bases = bases; faces = faces }

-- The first word of a text.
abbrev pub first_spot : Spot
first_spot = spot 0 0 0 0

-- The first word of the next unit, where so many of each kind follow.
abbrev pub next_unit : ℕ → ℕ → ℕ → Spot
next_unit roots bases faces =
    if nat_lt 0 roots then spot 7 (roots - 1) bases faces else
    if nat_lt 0 bases then spot 12 roots (bases - 1) faces else
    if nat_lt 0 faces then spot 27 roots bases (faces - 1) else
    spot 16 roots bases faces

-- A unit ends with this field.
abbrev pub ends_unit : ℕ → Bool
ends_unit field = field == 6 || field == 11 || field == 15 || nat_le 32 field

-- After a word that is this field.
abbrev pub spot_after : Spot → ℕ → Spot
spot_after s word =
    if s.field == 1 then spot (if word == 2 then 2 else 3) s.roots s.bases s.faces else
    if s.field == 4 then spot 5 word s.bases s.faces else
    if s.field == 5 then spot 6 s.roots word s.faces else
    if s.field == 26 then next_unit s.roots s.bases (if word == 3 then 2 else 1) else
    if ends_unit s.field then next_unit s.roots s.bases s.faces else
    spot (s.field + 1) s.roots s.bases s.faces
