-- Flags of the vertices that faces name.
use Rattle.std.proofs.Common.{◌≡◌, ℕ, zero, suc, ◌+◌, ◌<◌, ◌≤◌, Bool, true, false, ◌||◌, ◌==◌, inl}
use Rattle.std.proofs.lemmas.Grind.{common_steps}
use Rattle.std.proofs.Common.{inr, refl, sym, ap, ◌∙◌, List, [], ◌∷◌, ◌++◌, length, get_or, set}
use Rattle.std.proofs.Common.{take, replicate, arith}
use Rattle.std.specs.List.{All}
use Rattle.std.proofs.Math.Bool.{or_comm, or_assoc}
use Rattle.std.proofs.lemmas.Bool.{cases_eq, eq-eqb, ne_eqb}
use Rattle.std.proofs.lemmas.List.{length-set, length_push, get_or_push, get_or_append_left}
use Rattle.std.proofs.lemmas.List.{get_or-set_same, get_or-set_other, replicate_more, take_more}
use Rattle.std.proofs.lemmas.List.{take_all, ext_get_or}
use Rattle.std.proofs.lemmas.List.Folds.{list_any-append}
use Rattle.pm_base.specs.declared.mesh.Corners.{Corners}
use Rattle.pm_base.specs.Sides.{no_corners}
use Rattle.pm_fans.specs.Kept.{is_corner}
use Rattle.obj_prepare.specs.Named.{is_some_corner, named_in, AreVerticesBelow, IsWithinMesh}

pub length-named_in : (fs : List Corners) (n : ℕ) → length (named_in fs n) ≡ n
length-named_in fs zero = refl
length-named_in fs (suc n) =
    omega (arith, length_push (named_in fs n) (is_some_corner fs n), length-named_in fs n)

-- The flag of a vertex.
pub named_at : (fs : List Corners) (n v : ℕ) → v < n
    → get_or (named_in fs n) v false ≡ is_some_corner fs v
named_at fs zero v l = absurd (omega arith)
named_at fs (suc n) v l =
    let long = length-named_in fs n in
    elim (cases_eq v n) [
      | inl same ↦ get_or_push (named_in fs n) (is_some_corner fs n) false v (long ∙ sym same)
          ∙ ap (is_some_corner fs) (sym same)
      | inr other ↦ get_or_append_left (named_in fs n) (is_some_corner fs n ∷ []) false v
          (omega (arith, long)) ∙ named_at fs n v (omega arith)
    ]

pub none_named : (n : ℕ) → replicate n false ≡ named_in [] n
none_named zero = refl
none_named (suc n) = grind (arith, common_steps, replicate_more, none_named n)

-- A flag that is set.
set_flag : (flags : List Bool) (v w : ℕ) → w < length flags → get_or (set flags v true) w false
    ≡ (v == w || get_or flags w false)
set_flag flags v w l =
    grind (arith, common_steps, eq-eqb, get_or, get_or-set_other, get_or-set_same, ne_eqb)

turned : (a b c before : Bool) → (c || (b || (a || before))) ≡ (before || ((a || b || c) || false))
turned a b c before = grind (arith, common_steps, or_assoc, or_comm)

abbrev pub with_corners : List Bool → Corners → List Bool
with_corners flags f = set (set (set flags f.a true) f.b true) f.c true

length-with_corners : (flags : List Bool) (f : Corners)
    → length (with_corners flags f) ≡ length flags
length-with_corners flags f =
    length-set (set (set flags f.a true) f.b true) f.c true
    ∙ length-set (set flags f.a true) f.b true ∙ length-set flags f.a true

corner_flag : (flags : List Bool) (f : Corners) (w : ℕ) → w < length flags
    → get_or (with_corners flags f) w false ≡ (get_or flags w false || (is_corner f w || false))
corner_flag flags f w l =
    let one = length-set flags f.a true in
    let two = length-set (set flags f.a true) f.b true in
    set_flag (set (set flags f.a true) f.b true) f.c w (omega (arith, one, two))
    ∙ ap (λ b. f.c == w || b) (set_flag (set flags f.a true) f.b w (omega (arith, one))
    ∙ ap (λ b. f.b == w || b) (set_flag flags f.a w l))
    ∙ turned (f.a == w) (f.b == w) (f.c == w) (get_or flags w false)

-- One more face.
pub corners_named : (flags : List Bool) (f : Corners) (before : List Corners) (n : ℕ)
    → flags ≡ named_in before n → with_corners flags f ≡ named_in (before ++ f ∷ []) n
corners_named flags f before n is =
    let long : length flags ≡ n = ap length is ∙ length-named_in before n in
    ext_get_or false (with_corners flags f) (named_in (before ++ f ∷ []) n)
    (length-with_corners flags f ∙ long ∙ sym (length-named_in (before ++ f ∷ []) n)) (λ w l.
    let low : w < length flags = omega (arith, l, length-with_corners flags f) in
    let in_n : w < n = omega (arith, low, long) in
    corner_flag flags f w low
    ∙ ap (λ b. b || (is_corner f w || false)) (ap (λ xs. get_or xs w false) is
    ∙ named_at before n w in_n)
    ∙ sym (list_any-append (λ g. is_corner g w) before (f ∷ []))
    ∙ sym (named_at (before ++ f ∷ []) n w in_n))

pub one_more_named : (flags : List Bool) (fs : List Corners) (n i : ℕ) → i < length fs
    → flags ≡ named_in (take i fs ++ get_or fs i no_corners ∷ []) n
    → flags ≡ named_in (take (i + 1) fs) n
one_more_named flags fs n i l is = is ∙ ap (λ gs. named_in gs n) (sym (take_more fs i no_corners l))

pub all_named : (flags : List Bool) (fs : List Corners) (n i : ℕ) → length fs ≤ i
    → flags ≡ named_in (take i fs) n → flags ≡ named_in fs n
all_named flags fs n i l is = is ∙ ap (λ gs. named_in gs n) (take_all i fs l)

-- The corners of each face are vertices.
pub corners_within : (flags : List Bool) (fs before : List Corners) (n i : ℕ)
    → All (AreVerticesBelow n) fs → i < length fs → flags ≡ named_in before n
    → AreVerticesBelow (length flags) (get_or fs i no_corners)
corners_within flags fs before n i all l is = grind (arith, common_steps, length-named_in)

one_face : (n : ℕ) (f : Corners) → AreVerticesBelow n f → All (AreVerticesBelow n) (f ∷ [])
one_face n f is zero d l = is
one_face n f is (suc k) d l = absurd (omega (arith, l))

-- One face over few vertices is within the limits.
pub one_within : (n : ℕ) (f : Corners) → n ≤ 1048576 → AreVerticesBelow n f
    → IsWithinMesh n (f ∷ [])
one_within n f few is = grind (arith, common_steps, one_face)
