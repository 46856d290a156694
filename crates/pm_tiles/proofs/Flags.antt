-- The flags of the border are set vertex by vertex, and keep the border.
use Rattle.std.specs.Prelude.{IsTrue}
use Rattle.std.proofs.lemmas.Grind.{common_steps}
use Rattle.std.proofs.Common.{◌≡◌, ℕ, ◌+◌, ◌<◌, ◌↔◌, Bool, true, false, List, length}
use Rattle.std.proofs.Common.{slice_index_or}
use Rattle.std.proofs.Common.{inl, inr, sym, ◌∙◌, arith}
use Rattle.std.proofs.Math.ListN.{set}
use Rattle.std.proofs.lemmas.Bool.{cases_eq}
use Rattle.std.proofs.lemmas.List.{get_or-set_same, get_or-set_other, length-set}
use Rattle.pm_base.specs.Meshes.{Mesh, IsWellFormed}
use Rattle.pm_base.specs.Sides.{Net, next, net_of, IsBorder}
use Rattle.pm_base.proofs.Sides.{next-lt}
use Rattle.pm_base.proofs.NetLaws.{mesh_side}
use Rattle.pm_twins.specs.Table.{IsBorderOf}
use Rattle.pm_keeping.specs.Keeping.{kept_in}
use Rattle.pm_tiles.specs.Borders.{KeepsBorder}

-- Of so many vertices the flags of the first ones say whether they are on the border.
pub record AreSet (n : Net) (vertices count : ℕ) (flags : List Bool) : Type 0 where
  pub len : length flags ≡ vertices
  pub each : (v : ℕ) → v < count → (slice_index_or flags v false ≡ true) ↔ IsBorder n v

pub one_more :
    (n : Net) (vertices count : ℕ) (flags : List Bool) (b : Bool) → AreSet n vertices count flags →
    count < vertices → IsTrue b ↔ IsBorder n count →
    AreSet n vertices (count + 1) (set flags count b)
one_more n vertices count flags b are l says =
    let len = are.len in
    let here : slice_index_or (set flags count b) count false ≡ b =
    get_or-set_same flags count b false (omega arith) in
    record {
      len = length-set flags count b ∙ len;
      each = λ v low.
          elim (cases_eq v count) [
            | inl is ↦ grind (arith, common_steps, set, slice_index_or)
            | inr ne ↦
                let same = get_or-set_other flags count v b false ne in
                let old = are.each v (omega arith) in
                (λ t. old.0 (sym same ∙ t), λ on. same ∙ old.1 on)
          ];
    }

pub all_set :
    (n : Net) (vertices count : ℕ) (flags : List Bool) → AreSet n vertices count flags →
    count ≡ vertices → IsBorderOf n vertices flags
all_set n vertices count flags are all = record {
  vertices = are.len;
  each = λ v l. are.each v (omega arith);
}

-- A vertex on the border is one of the mesh, so its flag is set.
pub keeps_border :
    (m : Mesh) (flags : List Bool) → IsWellFormed m →
    IsBorderOf (net_of m.faces) (length m.points) flags → KeepsBorder (kept_in flags) m
unfolding kept_in
keeps_border m flags formed are v (e, side, at) =
    let l = side.stands.is_side in
    let begins = (mesh_side m formed e l).1 in
    let ends = (mesh_side m formed (next e) (next-lt (length m.faces) e l)).1 in
    let low : v < length m.points = grind (arith, common_steps) in
    (are.each v low).1 (e, side, at)
