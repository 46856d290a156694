-- A slot: 1,024 times the share of `true` in 2^22nds, and how many bits it learnt, 127 at most.
use Rattle.std.specs.Prelude.{ℕ, ◌+◌, ◌-◌, ◌*◌, ◌/◌, ◌%◌, Bool, max, min, if◌then◌else◌}

-- The share in 65,536ths, at least 1.
abbrev pub slot_share : ℕ → ℕ
slot_share slot = max (slot / 65536) 1

-- The share that went a part, in 65,536ths, of its way to the greatest one, rounded down.
abbrev pub risen : ℕ → ℕ → ℕ
risen share part = share + (4194303 - share) * part / 65536

-- The share that went a part of its way to 0, rounded down.
abbrev pub fallen : ℕ → ℕ → ℕ
fallen share part = share - (share * part + 65535) / 65536

-- The part of the way that a share goes, by how many bits came before.
abbrev pub part_by : ℕ → ℕ
part_by count = 65536 / (count + 2)

-- A slot after a bit.
abbrev pub slot_learned : ℕ → Bool → ℕ
slot_learned slot bit =
    (if bit
    then risen (slot / 1024) (part_by (slot % 1024))
    else fallen (slot / 1024) (part_by (slot % 1024))) * 1024
    + min (slot % 1024 + 1) 127
