-- A coordinate of a file is at most 10^32 units away from 0.
use Rattle.std.proofs.Common.{◌≡◌, ℕ, ◌^◌, ◌≤◌, ◌==◌, nat_lt, ◌||◌, not, List, Ok, ap}
use Rattle.std.proofs.Common.{arith}
use Rattle.std.specs.Prelude.{ℤ, pos, unsigned_abs, ◌*ℤ◌}
use Rattle.std.specs.List.{All}
use Rattle.std.proofs.lemmas.Bool.{ltb-false, or_parts}
use Rattle.std.proofs.lemmas.Int.{unsigned_abs-mul}
use Rattle.obj_read.specs.Coordinates.{is_negative, without_sign, with_sign}
use Rattle.obj_read.proofs.DecimalLaws.{with_sign_abs}
use Rattle.obj_prepare.specs.Exact.{AreExact}
use Rattle.obj_prepare.specs.Numbers.{decimal_coordinate, is_decimal, exponent, units_of_text}
use Rattle.obj_scan.specs.Judged.{Scanned}
use Rattle.obj_scan.specs.Meaning.{IsWithinLimits}
use Rattle.float_read.specs.declared.format.Format.{Format}
use Rattle.float_read.specs.Floats.{float_coordinate, whole_coordinate, units_of_bits}
use Rattle.float_read.specs.Floats.{greatest_exponent}
use Rattle.float_read.specs.Floats.{exponent as exponent_of, is_negative as is_negative_of}
use Rattle.mesh_scan.proofs.PlyHeaderLaws.{else_ok, else_is}

-- Points within the limits, each near enough, and triangles of them.
pub record IsSound (s : Scanned) : Type 0 where
  pub exact : All AreExact s.points
  pub within : IsWithinLimits s

pub float_exact : (f : Format) (bits : ℕ) (x : ℤ) → float_coordinate f bits ≡ Ok x
    → unsigned_abs x ≤ 10 ^ 32
unfolding float_coordinate
float_exact f bits x is =
    let n = units_of_bits f bits in
    let (finite, later) = else_ok (exponent_of f bits == greatest_exponent f) _ _ x is in
    let (small, made) = else_is (nat_lt (10 ^ 32) n) _ (with_sign (is_negative_of f bits) n) x
    later in
    omega (
      arith,
      ap unsigned_abs made,
      with_sign_abs (is_negative_of f bits) n,
      ltb-false (10 ^ 32) n small,
    )

pub whole_exact : (n x : ℤ) → whole_coordinate n ≡ Ok x → unsigned_abs x ≤ 10 ^ 32
unfolding whole_coordinate
whole_exact n x is =
    let (small, made) = else_is (nat_lt (10 ^ 14) (unsigned_abs n)) _ (n *ℤ pos (10 ^ 18)) x is in
    omega (
      arith,
      ap unsigned_abs made,
      unsigned_abs-mul n (pos (10 ^ 18)),
      ltb-false (10 ^ 14) (unsigned_abs n) small,
    )

pub decimal_exact : (field : List ℕ) (x : ℤ) → decimal_coordinate field ≡ Ok x
    → unsigned_abs x ≤ 10 ^ 32
unfolding decimal_coordinate
decimal_exact field x is =
    let number = without_sign field in
    let n = units_of_text number in
    let (good, later) = else_ok (not (is_decimal number)) _ _ x is in
    let (small, made) = else_is (nat_lt 999 (exponent number) || nat_lt (10 ^ 32) n) _
    (with_sign (is_negative field) n) x later in
    omega (
      arith,
      ap unsigned_abs made,
      with_sign_abs (is_negative field) n,
      ltb-false (10 ^ 32) n (or_parts _ _ small).1,
    )
