-- The leaves that a side runs from and to, and whether it has a twin.
use Rattle.std.proofs.Common.{◌≡◌, ℕ, ◌*◌, ◌%◌, ◌<◌, Bool, Option, None, Some, refl, ap, ◌∙◌, arith}
use Rattle.std.proofs.lemmas.Grind.{common_steps}
use Rattle.std.specs.Prelude.{is_some, not}
use Rattle.std.specs.Option.{is_none, option_map}
use Rattle.pm_base.specs.declared.ids.Side.{Side}
use Rattle.pm_base.specs.Sides.{face_of}
use Rattle.pm_twins.specs.Table.{Table, IsTableOf, twin_at}
use Rattle.pm_forest.specs.Forest.{Hierarchy, leaf_count}
use Rattle.pm_forest.specs.Faces.{face_count, corners_of, from_leaf, to_leaf}
use Rattle.pm_forest.proofs.Corners.{corner_a, corner_b, corner_c, which_corner}
use Rattle.pm_beyond.specs.Walks.{leaf_net, leaf_twin}

pub ends_a : (h : Hierarchy) (e : ℕ) → e % 3 ≡ 0
    → (from_leaf h e ≡ (corners_of h (face_of e)).a) × (to_leaf h e ≡ (corners_of h (face_of e)).b)
ends_a h e is =
    grind (arith, common_steps, corner_a h (face_of e), corner_b h (face_of e), which_corner e)

pub ends_b : (h : Hierarchy) (e : ℕ) → e % 3 ≡ 1
    → (from_leaf h e ≡ (corners_of h (face_of e)).b) × (to_leaf h e ≡ (corners_of h (face_of e)).c)
ends_b h e is =
    grind (arith, common_steps, corner_b h (face_of e), corner_c h (face_of e), which_corner e)

pub ends_c : (h : Hierarchy) (e : ℕ) → e % 3 ≡ 2
    → (from_leaf h e ≡ (corners_of h (face_of e)).c) × (to_leaf h e ≡ (corners_of h (face_of e)).a)
ends_c h e is =
    grind (arith, common_steps, corner_c h (face_of e), corner_a h (face_of e), which_corner e)

none_told : {A B : Type 0} (f : A → B) (o : Option A) → is_none o ≡ is_none (option_map f o)
none_told f None = refl
none_told f (Some x) = refl

negated : {A : Type 0} (o : Option A) (r : Bool) → is_some o ≡ not r → r ≡ is_none o
negated None r is = grind (arith, common_steps)
negated (Some x) r is = grind (arith, common_steps)

pub twin_told : (h : Hierarchy) (e : ℕ) (o : Option Side) (r : Bool) (t : Table)
    → e < 3 * face_count h → IsTableOf (leaf_net h) (leaf_count h) t → is_some o ≡ not r
    → option_map (λ (s : Side). s.0) o ≡ twin_at t e → r ≡ is_none (leaf_twin h e)
twin_told h e o r t below table is told =
    negated o r is ∙ none_told (λ (s : Side). s.0) o
    ∙ ap is_none (told ∙ table.twins.each e below)
