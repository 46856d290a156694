-- A well-formed oriented manifold isn't refused.
use Rattle.std.proofs.Common.{◌≡◌, ℕ, arith}
use Rattle.pm_base.specs.Meshes.{Mesh, IsWellFormed}
use Rattle.pm_base.specs.Sides.{Stands, NoSideTwice, net_of}
use Rattle.pm_base.proofs.NetLaws.{mesh_side}
use Rattle.pm_twins.specs.Faults.{IsFirstRepeating}

-- In a well-formed mesh no face repeats a side where no directed side stands twice.
pub repeats_none : (m : Mesh) → IsWellFormed m → NoSideTwice (net_of m.faces) → (f : ℕ)
    → IsFirstRepeating (net_of m.faces) f → ⊥
repeats_none m formed once f is =
    let r = is.repeats in
    let net = net_of m.faces in
    let side : Stands net r.side =
    (mesh_side m formed r.side (omega (arith, is.in_range, r.of_face))).0 in
    let earlier : Stands net r.earlier =
    (mesh_side m formed r.earlier (omega (arith, is.in_range, r.before))).0 in
    let same : r.earlier ≡ r.side = once r.earlier r.side earlier side r.from r.to in
    absurd (omega (arith, same, r.before, r.of_face))
