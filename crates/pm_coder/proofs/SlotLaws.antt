-- A part of a way is no longer than the way.
use Rattle.std.proofs.Common.{ℕ, ◌+◌, ◌*◌, ◌/◌, ◌≤◌, arith, mul-le-mul_left}

pub part_of : (way part : ℕ) → part ≤ 65535 → way * part / 65536 ≤ way
part_of way part l =
    let all : way * part ≤ way * 65535 = mul-le-mul_left way l in
    omega arith

pub part_above : (way part : ℕ) → part ≤ 65535 → (way * part + 65535) / 65536 ≤ way
part_above way part l =
    let all : way * part ≤ way * 65535 = mul-le-mul_left way l in
    omega arith
