-- The sides of a well-formed mesh, as the calls need them.
use Rattle.std.proofs.Common.{◌≡◌, ℕ, ◌<◌, Option, List, length, sym, subst}
use Rattle.std.proofs.Common.{arith}
use Rattle.pm_base.specs.declared.mesh.Corners.{Corners}
use Rattle.pm_base.specs.Meshes.{Mesh, IsWellFormed}
use Rattle.pm_base.specs.Sides.{Net, side_count, next, to, third, net_of, NoSideTwice}
use Rattle.pm_base.proofs.Sides.{next-lt}
use Rattle.pm_base.proofs.NetLaws.{mesh_side}
use Rattle.pm_twins.specs.Whole.{IsWhole}
use Rattle.pm_twins.specs.Table.{AreTwinsOf}
use Rattle.pm_twins.specs.Walks.{IsWalkable}

pub mesh_whole : (m : Mesh) → IsWellFormed m → IsWhole (net_of m.faces) (length m.points)
mesh_whole m formed =
    let points = formed.points in
    let faces = formed.faces in
    record {
      short = omega arith;
      few = omega arith;
      stands = λ e l. (mesh_side m formed e l).0;
      within = λ e l. (mesh_side m formed e l).1;
    }

-- The same for what the code reads of the mesh.
pub read_whole : (m : Mesh) {fs : List Corners} {n : ℕ} → IsWellFormed m → fs ≡ m.faces
    → n ≡ length m.points → IsWhole (net_of fs) n
read_whole m {fs} {n} formed are is = rw (are, is) (mesh_whole m formed)

pub to_within : (m : Net) (n : ℕ) → IsWhole m n → (e : ℕ) → e < side_count m → to m e < n
to_within m n whole e l = whole.within _ (next-lt m.faces e l)

pub third_within : (m : Net) (n : ℕ) → IsWhole m n → (e : ℕ) → e < side_count m → third m e < n
third_within m n whole e l = to_within m n whole (next e) (next-lt m.faces e l)

-- Lists that are those of a well-formed mesh and of its twins can be walked.
pub mesh_walkable : (m : Mesh) (fs : List Corners) (twins table : List (Option ℕ)) → IsWellFormed m
    → NoSideTwice (net_of m.faces) → AreTwinsOf (net_of m.faces) twins → fs ≡ m.faces
    → table ≡ twins → IsWalkable (net_of fs) table
mesh_walkable m fs twins table formed once are is same =
    let short = formed.faces in
    let walkable : IsWalkable (net_of m.faces) twins = record {
      short = omega arith;
      stands = λ e l. (mesh_side m formed e l).0;
      once = once;
      twins = are;
    } in
    subst (λ (gs : List Corners). IsWalkable (net_of gs) table) (sym is)
    (subst (λ (t : List (Option ℕ)). IsWalkable (net_of m.faces) t) (sym same) walkable)
