-- The points of a PLY file are at most 10^32 units away from 0 on each axis.
use Rattle.std.proofs.Common.{◌≡◌, ℕ, ◌^◌, ◌≤◌, Bool, true, false, ◌||◌, not, nat_lt, List, ℤ}
use Rattle.std.proofs.Common.{Result, Ok, Err, ap, subst, if◌then◌else◌}
use Rattle.std.specs.Prelude.{unsigned_abs}
use Rattle.pm_base.specs.Place.{Place}
use Rattle.obj_read.specs.Coordinates.{is_negative, without_sign, with_sign}
use Rattle.obj_read.specs.declared.fault.ObjFault.TheVariants as decimals
use Rattle.obj_prepare.specs.Exact.{AreExact}
use Rattle.obj_prepare.specs.Numbers.{decimal_coordinate, is_decimal, exponent, units_of_text}
use Rattle.float_read.specs.declared.fault.FloatFault.{FloatFault}
use Rattle.float_read.specs.declared.fault.FloatFault.TheVariants as floats
use Rattle.float_read.specs.Floats.{binary32, binary64}
use Rattle.ply_read.specs.declared.declared.Encoding.{Encoding}
use Rattle.ply_read.specs.declared.declared.Encoding.TheVariants as encodings
use Rattle.ply_read.specs.declared.declared.Order.{Order}
use Rattle.ply_read.specs.declared.declared.ScalarType.{ScalarType}
use Rattle.ply_read.specs.declared.declared.ScalarType.TheVariants as types
use Rattle.ply_read.specs.declared.declared.Role.{Role}
use Rattle.ply_read.specs.declared.declared.Role.TheVariants as roles
use Rattle.ply_read.specs.declared.declared.Property.{Property}
use Rattle.ply_read.specs.declared.fault.PlyFault.{PlyFault}
use Rattle.ply_read.specs.Numbers.{binary_coordinate}
use Rattle.ply_read.specs.Items.{Item, next_item, of_decimal, of_float, coordinate_of, valued}
use Rattle.ply_read.specs.Items.{coordinate, after_value}
use Rattle.ply_read.specs.Body.{Row, passed, vertex_property}
use Rattle.mesh_scan.proofs.PlyHeaderLaws.{bind_ok}
use Rattle.mesh_scan.proofs.ExactLaws.{float_exact, whole_exact, decimal_exact}

pub valued_ok : {A : Type 0} (i : Item) (r : Result A PlyFault) (v : A × List ℕ)
    → valued i r ≡ Ok v → r ≡ Ok v.0
valued_ok {A = A} i (Ok x) v is =
    let made : (x, i.after) ≡ v = cc in
    let front : A × List ℕ → Result A PlyFault = λ p. Ok p.0 in
    ap front made
valued_ok i (Err fault) v is = absurd (cc)

decimal_case : (bad far : Bool) (y x : ℤ)
    → of_decimal (if bad then Err decimals.BadNumber
    else if far then Err decimals.OutOfRange else Ok y) ≡ Ok x
    → (if bad then Err decimals.BadNumber
    else if far then Err decimals.OutOfRange else Ok y) ≡ Ok x
decimal_case true far y x is = absurd (cc)
decimal_case false true y x is = absurd (cc)
decimal_case false false y x is = let same : y ≡ x = cc in cc

decimal_ok : (field : List ℕ) (x : ℤ) → of_decimal (decimal_coordinate field) ≡ Ok x
    → decimal_coordinate field ≡ Ok x
unfolding decimal_coordinate
decimal_ok field x is =
    decimal_case (not (is_decimal (without_sign field)))
    (nat_lt 999 (exponent (without_sign field))
    || nat_lt (10 ^ 32) (units_of_text (without_sign field)))
    (with_sign (is_negative field) (units_of_text (without_sign field))) x is

float_ok : (r : Result ℤ FloatFault) (x : ℤ) → of_float r ≡ Ok x → r ≡ Ok x
float_ok (Ok y) x is = let same : y ≡ x = cc in cc
float_ok (Err floats.NotFinite) x is = absurd (cc)
float_ok (Err floats.TooLarge) x is = absurd (cc)

binary_exact : (o : Order) (t : ScalarType) (bytes : List ℕ) (x : ℤ)
    → binary_coordinate o t bytes ≡ Ok x → unsigned_abs x ≤ 10 ^ 32
unfolding binary_coordinate
binary_exact o types.Int8 bytes x is = whole_exact _ x is
binary_exact o types.Uint8 bytes x is = whole_exact _ x is
binary_exact o types.Int16 bytes x is = whole_exact _ x is
binary_exact o types.Uint16 bytes x is = whole_exact _ x is
binary_exact o types.Int32 bytes x is = whole_exact _ x is
binary_exact o types.Uint32 bytes x is = whole_exact _ x is
binary_exact o types.Float32 bytes x is = float_exact binary32 _ x is
binary_exact o types.Float64 bytes x is = float_exact binary64 _ x is

number_exact : (e : Encoding) (t : ScalarType) (bytes : List ℕ) (x : ℤ)
    → coordinate_of e t bytes ≡ Ok x → unsigned_abs x ≤ 10 ^ 32
number_exact encodings.Ascii t bytes x is = decimal_exact bytes x (decimal_ok bytes x is)
number_exact (encodings.Binary o) t bytes x is =
    binary_exact o t bytes x (float_ok (binary_coordinate o t bytes) x is)

coordinate_exact : (e : Encoding) (t : ScalarType) (rest : List ℕ) (c : ℤ × List ℕ)
    → coordinate e t rest ≡ Ok c → unsigned_abs c.0 ≤ 10 ^ 32
unfolding coordinate
coordinate_exact e t rest c is =
    let (i, item, made) = bind_ok (next_item e t rest) _ c is in
    number_exact e t i.bytes c.0 (valued_ok i (coordinate_of e t i.bytes) c made)

passed_exact : (e : Encoding) (p : Property) (r u : Row) → AreExact r.point
    → passed e p r ≡ Ok u → AreExact u.point
passed_exact e p r u exact is =
    let (rest, read, made) = bind_ok (after_value e p.length p.item r.rest) _ u is in
    let after : Row = record r { rest = rest } in
    let same : after ≡ u = cc in
    subst (λ (v : Row). AreExact v.point) same exact

-- What a property of a vertex keeps.
pub vertex_exact : (e : Encoding) (role : Role) (p : Property) (r u : Row) → AreExact r.point
    → vertex_property e role p r ≡ Ok u → AreExact u.point
unfolding vertex_property
vertex_exact e roles.X p r u exact is =
    let (c, read, made) = bind_ok (coordinate e p.item r.rest) _ u is in
    let point : Place = record { x = c.0; y = r.point.y; z = r.point.z } in
    let after : Row = record r { point = point; rest = c.1 } in
    let same : after ≡ u = cc in
    subst (λ (v : Row). AreExact v.point) same
    (coordinate_exact e p.item r.rest c read, exact.1, exact.2)
vertex_exact e roles.Y p r u exact is =
    let (c, read, made) = bind_ok (coordinate e p.item r.rest) _ u is in
    let point : Place = record { x = r.point.x; y = c.0; z = r.point.z } in
    let after : Row = record r { point = point; rest = c.1 } in
    let same : after ≡ u = cc in
    subst (λ (v : Row). AreExact v.point) same
    (exact.0, coordinate_exact e p.item r.rest c read, exact.2)
vertex_exact e roles.Z p r u exact is =
    let (c, read, made) = bind_ok (coordinate e p.item r.rest) _ u is in
    let point : Place = record { x = r.point.x; y = r.point.y; z = c.0 } in
    let after : Row = record r { point = point; rest = c.1 } in
    let same : after ≡ u = cc in
    subst (λ (v : Row). AreExact v.point) same
    (exact.0, exact.1, coordinate_exact e p.item r.rest c read)
vertex_exact e roles.Corners p r u exact is = passed_exact e p r u exact is
vertex_exact e roles.Normal p r u exact is = passed_exact e p r u exact is
vertex_exact e roles.Colour p r u exact is = passed_exact e p r u exact is
vertex_exact e roles.Texture p r u exact is = passed_exact e p r u exact is
vertex_exact e roles.Other p r u exact is = passed_exact e p r u exact is
