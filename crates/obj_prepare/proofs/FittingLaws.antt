-- Triangles that need nothing are what comes of them.
use Rattle.std.proofs.Common.{◌≡◌, ◌≢◌, ℕ, suc, ◌+◌, ◌-◌, ◌*◌, ◌<◌, ◌≤◌, Bool, true, false, ◌==◌}
use Rattle.std.proofs.lemmas.Grind.{common_steps}
use Rattle.std.proofs.Common.{◌||◌, inl, inr, sym, ap, ◌∙◌, subst, List, [], ◌∷◌, length, map}
use Rattle.std.proofs.Common.{get_or, Option, None, Some, arith}
use Rattle.std.specs.Option.{MatchOption}
use Rattle.std.specs.List.{All, filter, list_all, IsDistinct}
use Rattle.std.specs.List.Sorted.{IsPermutation, IsStrictlyIncreasing}
use Rattle.std.proofs.lemmas.Bool.{cases_lt, cond-true, cond-false}
use Rattle.std.proofs.lemmas.Bool.{or_cases, or_left, or_right, eq-eqb, eqb-true, ne_eqb}
use Rattle.std.proofs.lemmas.Bool.{true≢false, false≢true}
use Rattle.std.proofs.lemmas.List.{length-map, get_or-map}
use Rattle.std.proofs.lemmas.List.Elements.{All-nil, All-cons, All-head, All-tail}
use Rattle.std.proofs.lemmas.List.Folds.{list_all_at}
use Rattle.std.proofs.lemmas.List.Sorted.{IsPermutation-sym}
use Rattle.std.proofs.lemmas.Map.Keys.{IsDistinct-from_apart, IsDistinct-IsPermutation}
use Rattle.std.proofs.lemmas.Map.Keys.{apart_from_distinct, sorted_from_strictly_increasing}
use Rattle.std.proofs.lemmas.Map.Keys.{below_from_sorted}
use lib.Dec.{eqb}
use Rattle.pm_base.specs.declared.mesh.Corners.{Corners}
use Rattle.pm_base.specs.Place.{Place, origin}
use Rattle.pm_base.specs.Meshes.{Mesh, IsFace, IsWellFormed}
use Rattle.pm_base.specs.Sides.{Net, net_of, side_count, NoSideTwice, IsTwin, twin_of}
use Rattle.pm_base.specs.Fans.{IsUsed, IsOrientedManifold}
use Rattle.pm_base.proofs.NetLaws.{face_at, first_side, second_side, third_side, mesh_side}
use Rattle.pm_base.proofs.TwinLaws.{twin-is, twin-none}
use Rattle.pm_fans.specs.Splits.{AllStand}
use Rattle.pm_fans.specs.Kept.{is_flat, is_corner}
use Rattle.pm_turn.specs.Turning.{AreMates}
use Rattle.pm_turn.specs.Unions.{AreMated}
use Rattle.pm_turn.specs.Choice.{ArePlaced}
use Rattle.pm_turn.specs.Told.{AreInsideOut}
use Rattle.pm_twins.specs.Table.{Table, IsTableOf}
use Rattle.obj_prepare.specs.Firsts.{place_key}
use Rattle.obj_prepare.specs.Named.{AreVerticesBelow, IsWithinMesh, is_some_corner, named_in}
use Rattle.obj_prepare.specs.Joining.{place_in_list}
use Rattle.obj_prepare.specs.Laws.{AreFit}
use Rattle.obj_prepare.specs.Nothing.{AreAllNamed, AreApart, AreWhole, mesh_over, nothing_done}
use Rattle.obj_prepare.specs.declared.notes.Notes.{Notes}
use Rattle.obj_prepare.specs.Prepared.{IsPrepared, IsPreparedWith}
use Rattle.obj_prepare.proofs.FitMeshes.{fit_meshes_stay}
use Rattle.obj_prepare.proofs.NothingLaws.{told_nothing}
use Rattle.obj_prepare.proofs.NamedLaws.{length-named_in, named_at}

-- Where all flags are set each vertex is named.
all_set : (flags : List Bool) (v : ℕ) → list_all (λ b. b) flags ≡ true → v < length flags
    → get_or flags v false ≡ true
all_set flags v all l = grind (arith, common_steps, get_or, list_all_at)

pub all_named : (n : ℕ) (faces : List Corners) (flags : List Bool) → flags ≡ named_in faces n
    → list_all (λ b. b) flags ≡ true → AreAllNamed n faces
all_named n faces flags are all v l =
    sym (named_at faces n v l)
    ∙ ap (λ (bs : List Bool). get_or bs v false) (sym are)
    ∙ all_set flags v all (omega (arith, l, ap length are, length-named_in faces n))

-- Where no triangle names a vertex twice each is a face.
face_of_three : (n : ℕ) (f : Corners) → AreVerticesBelow n f → is_flat f ≡ false → IsFace n f
face_of_three n f are not_flat = grind (arith, common_steps, eq-eqb, or_left, or_right)

faces_of_three : (n : ℕ) (fs : List Corners) → All (AreVerticesBelow n) fs
    → length (filter is_flat fs) ≡ 0 → All (IsFace n) fs
faces_of_three n [] all none = All-nil (IsFace n)
faces_of_three n (f ∷ fs) all none =
    grind (
      arith,
      common_steps,
      All-cons,
      All-head,
      All-tail,
      cond-false,
      cond-true,
      face_of_three,
      faces_of_three n fs (All-tail (AreVerticesBelow n) f fs all),
    )

pub mesh_formed : (places : List Place) (faces : List Corners) → IsWithinMesh (length places) faces
    → length (filter is_flat faces) ≡ 0 → IsWellFormed (mesh_over places faces)
mesh_formed places faces within none =
    grind (arith, common_steps, faces_of_three (length places) faces within.corners none)

-- Numbers that rise once they are sorted were all different.
rising_differ : (xs : List ℕ) → IsStrictlyIncreasing xs → IsDistinct eqb xs
rising_differ xs rise =
    IsDistinct-from_apart eqb xs (λ i j d less low.
    let below = below_from_sorted xs i j d (sorted_from_strictly_increasing xs rise) less low in
    ne_eqb _ _ (λ same. omega (arith, below, same)))

eqb_flips : (x y : ℕ) → eqb x y ≡ eqb y x
eqb_flips x y = grind arith

keys_differ : (xs ys : List ℕ) → IsPermutation xs ys → IsStrictlyIncreasing ys → (i j : ℕ) → i < j
    → j < length xs → get_or xs i 0 ≢ get_or xs j 0
keys_differ xs ys moved rise i j less low same =
    true≢false (sym (eq-eqb _ _ same) ∙ apart_from_distinct eqb xs i j 0
    (IsDistinct-IsPermutation eqb eqb_flips ys xs (IsPermutation-sym xs ys moved)
    (rising_differ ys rise)) less low)

module _ (places : List Place) (keys sorted : List ℕ) (are : keys ≡ map place_key places)
    (moved : IsPermutation keys sorted) (rise : IsStrictlyIncreasing sorted) where
  key_at : (v : ℕ) → v < length places → get_or keys v 0 ≡ place_key (place_in_list places v)
  key_at v l =
      ap (λ (ks : List ℕ). get_or ks v 0) are ∙ get_or-map place_key places v origin 0 l

  differ : (v w : ℕ) → v < w → w < length places → place_in_list places v ≢ place_in_list places w
  differ v w less low same =
      let long : length keys ≡ length places = ap length are ∙ length-map places place_key in
      keys_differ keys sorted moved rise v w less (omega (arith, low, long))
      (key_at v (omega (arith, less, low)) ∙ ap place_key same ∙ sym (key_at w low))

  pub keys_apart : AreApart places
  keys_apart v w lv lw other same = grind (arith, common_steps, differ)

-- In an oriented manifold the mate of a side is its twin.
module _ (m : Net) (stand : AllStand m) (once : NoSideTwice m) where
  twin_mates : (e k : ℕ) → e < side_count m → IsTwin m e k → AreMates m e k
  twin_mates e k l t = record {
    stands = stand e l;
    differ = λ is. (stand e l).first (ap m.from is ∙ t.begins);
    same = record { stands = t.stands; ends = inr (t.begins, t.ends) };
    alone = λ g j.
        elim j.ends [
          | inl (from, end) ↦ inl (once g e j.stands (stand e l) from end)
          | inr (from, end) ↦
              inr (once g k j.stands t.stands (from ∙ sym t.begins) (end ∙ sym t.ends))
        ];
  }

  mates_twin : (e k : ℕ) → AreMates m e k → IsTwin m e k
  mates_twin e k a =
      elim a.same.ends [
        | inl (from, end) ↦ absurd (a.differ (sym (once k e a.same.stands a.stands from end)))
        | inr (from, end) ↦ record { stands = a.same.stands; begins = from; ends = end }
      ]

  mate_told : (e : ℕ) (r : Option ℕ) → e < side_count m → r ≡ twin_of m e
      → MatchOption r ((k : ℕ) → AreMates m e k → ⊥) (λ k. AreMates m e k)
  mate_told e None l is = λ k a. twin-none m e (sym is) k (mates_twin e k a)
  mate_told e (Some k) l is = twin_mates e k l (twin-is m e k (sym is))

  pub twins_mated : (n : ℕ) (t : Table) → IsTableOf m n t → AreMated m t.twins
  twins_mated n t is = grind (arith, common_steps, mate_told)

-- A vertex that a triangle names is used.
some_corner_at : (fs : List Corners) (v : ℕ) → is_some_corner fs v ≡ true
    → (i : ℕ) × (i < length fs) × (is_corner (face_at fs i) v ≡ true)
some_corner_at [] v is = absurd (false≢true is)
some_corner_at (f ∷ fs) v is =
    elim (or_cases (is_corner f v) (is_some_corner fs v) is) [
      | inl here ↦ (0, omega arith, here)
      | inr more ↦
          let (i, l, there) = some_corner_at fs v more in
          (suc i, omega (arith, l), there)
    ]

named_used : (faces : List Corners) (v : ℕ) → AllStand (net_of faces)
    → is_some_corner faces v ≡ true → IsUsed (net_of faces) v
named_used faces v stand is =
    let (i, l, has) = some_corner_at faces v is in
    let f = face_at faces i in
    elim (or_cases (f.a == v || f.b == v) (f.c == v) has) [
      | inl ab ↦
          elim (or_cases (f.a == v) (f.b == v) ab) [
            | inl a ↦ (
              3 * i,
              stand (3 * i) (omega (arith, l)),
              (first_side faces i).0 ∙ eqb-true _ _ a,
            )
            | inr b ↦ (
              3 * i + 1,
              stand (3 * i + 1) (omega (arith, l)),
              (second_side faces i).0 ∙ eqb-true _ _ b,
            )
          ]
      | inr c ↦ (
        3 * i + 2,
        stand (3 * i + 2) (omega (arith, l)),
        (third_side faces i).0 ∙ eqb-true _ _ c,
      )
    ]

pub whole_stand : (places : List Place) (faces : List Corners) → AreWhole places faces
    → AllStand (net_of faces)
whole_stand places faces whole e l = (mesh_side (mesh_over places faces) whole.formed e l).0

pub whole_fit : (places : List Place) (faces : List Corners) → AreWhole places faces
    → AreFit places faces
whole_fit places faces whole =
    grind (arith, common_steps, named_used faces, whole_stand places faces whole)

-- One more number rises above the one before it.
pub rises_more : (xs : List ℕ) (at before here : ℕ) → 1 ≤ at → before ≡ get_or xs (at - 1) 0
    → here ≡ get_or xs at 0 → before < here
    → ((k : ℕ) → k + 1 < at → get_or xs k 0 < get_or xs (k + 1) 0)
    → (k : ℕ) → k + 1 < at + 1 → get_or xs k 0 < get_or xs (k + 1) 0
rises_more xs at before here some is are above so_far k l =
    elim (cases_lt (k + 1) at) [
      | inl low ↦ so_far k low
      | inr high ↦ grind (arith, common_steps, get_or)
    ]

-- What holds of the surface that such triangles are.
pub whole_placed : (places : List Place) (faces : List Corners) → AreWhole places faces
    → ArePlaced (net_of faces) places
whole_placed places faces whole e l = (mesh_side (mesh_over places faces) whole.formed e l).1

pub surface_mated : (places : List Place) (faces : List Corners) (s : Mesh) (t : Table)
    (sides : List (Option ℕ)) → AreWhole places faces → s ≡ mesh_over places faces
    → IsTableOf (net_of s.faces) (length s.points) t → sides ≡ t.twins
    → AreMated (net_of faces) sides
surface_mated places faces s t sides whole is table are =
    let own : IsTableOf (net_of faces) (length places) t =
    subst (λ (m : Mesh). IsTableOf (net_of m.faces) (length m.points) t) is table in
    subst (AreMated (net_of faces)) (sym are)
    (twins_mated (net_of faces) (whole_stand places faces whole) own.once (length places) t own)

-- They are what comes of them.
pub stands_prepared : (places : List Place) (faces : List Corners) (s m : Mesh) (notes : Notes)
    (k : ℕ) → IsWithinMesh (length places) faces → AreWhole places faces
    → s ≡ mesh_over places faces → m ≡ s → IsOrientedManifold (net_of s.faces)
    → AreInsideOut (net_of faces) places k → notes ≡ nothing_done k
    → IsPreparedWith places faces m notes
stands_prepared places faces s m notes k within whole is same manifold inward told =
    let own : IsOrientedManifold (net_of faces) =
    subst (λ (n : Mesh). IsOrientedManifold (net_of n.faces)) is manifold in
    let fit = whole_fit places faces whole in
    let p : IsPrepared places faces (mesh_over places faces) =
    fit_meshes_stay places faces within (whole_stand places faces whole) own fit in
    let all : IsPreparedWith places faces (mesh_over places faces) (nothing_done k) =
    (p, told_nothing (mesh_over places faces) within.corners own fit p k inward) in
    subst (λ (n : Mesh). IsPreparedWith places faces n notes) (sym (same ∙ is))
    (subst (λ (n : Notes). IsPreparedWith places faces (mesh_over places faces) n) (sym told) all)

pub stands_formed : (places : List Place) (faces : List Corners) (s m : Mesh)
    → AreWhole places faces → s ≡ mesh_over places faces → m ≡ s → IsWellFormed m
stands_formed places faces s m whole is same = subst IsWellFormed (sym (same ∙ is)) whole.formed
