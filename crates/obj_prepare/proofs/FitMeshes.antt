-- A mesh that needs nothing comes back.
use Rattle.std.proofs.Common.{◌≡◌, ℕ, ◌/◌, ◌<◌, inl, inr, refl, sym, ap, ◌∙◌, subst, List, [], ◌∷◌}
use Rattle.std.proofs.lemmas.Grind.{common_steps}
use Rattle.std.proofs.Common.{length, map, arith}
use Rattle.std.specs.Prelude.{slice_index_or}
use Rattle.std.specs.List.{All, range_with_len}
use Rattle.std.proofs.lemmas.List.{ext_get_or, length-map, get_or-map}
use Rattle.std.proofs.lemmas.List.Elements.{All-head, All-tail, All-get_or}
use Rattle.std.proofs.lemmas.List.FromFn.{length-range_with_len, get_or-range_with_len}
use Rattle.pm_base.specs.declared.mesh.Corners.{Corners}
use Rattle.pm_base.specs.Place.{Place, origin}
use Rattle.pm_base.specs.Sides.{net_of, side_count, no_corners}
use Rattle.pm_base.specs.Fans.{IsOrientedManifold}
use Rattle.pm_fans.specs.Splits.{AllStand}
use Rattle.pm_fans.specs.Orders.{IsSplitMesh}
use Rattle.pm_fans.specs.Kept.{kept_of}
use Rattle.pm_fans.proofs.Turned.{side_turned}
use Rattle.pm_fans.proofs.Staying.{manifolds_stay}
use Rattle.pm_fans.proofs.OwnSplit.{manifolds_are_their_own_split}
use Rattle.pm_turn.specs.Turning.{turned_by}
use Rattle.pm_turn.specs.Choice.{AreChosenTurns}
use Rattle.pm_turn.proofs.ChosenAgain.{manifolds_are_kept}
use Rattle.pm_turn.proofs.ChosenThere.{chosen_turns_are_there}
use Rattle.obj_prepare.specs.Named.{AreVerticesBelow, IsWithinMesh}
use Rattle.obj_prepare.specs.Joining.{place_in_list, AreJoined, renamed, joined_faces}
use Rattle.obj_prepare.specs.Prepared.{IsPrepared}
use Rattle.obj_prepare.specs.Laws.{AreFit}

abbrev own : ℕ → List ℕ
own n = range_with_len 0 n

own_name : (n v : ℕ) → v < n → slice_index_or (own n) v 0 ≡ v
own_name n v l = get_or-range_with_len 0 n v 0 l ∙ omega arith

-- Each vertex stands for itself.
own_joined : (places : List Place) (faces : List Corners) → AreFit places faces
    → AreJoined places faces (own (length places))
own_joined places faces fit = record {
  all = length-range_with_len 0 (length places);
  each = λ v l named.
      let at = own_name (length places) v l in
      record {
        named = rw at named;
        same = ap (place_in_list places) at;
        least = λ w less also same. fit.apart w v (omega (arith, less, at, l)) l
            (omega (arith, less, at)) same;
      };
  others = λ v l out. own_name (length places) v l;
}

own_face : (n : ℕ) (f : Corners) → AreVerticesBelow n f → renamed (own n) f ≡ f
own_face n f are = grind (arith, common_steps, own_name)

own_faces : (n : ℕ) (fs : List Corners) → All (AreVerticesBelow n) fs → joined_faces (own n) fs ≡ fs
own_faces n [] are = refl
own_faces n (f ∷ fs) are =
    let first = own_face n f (All-head (AreVerticesBelow n) f fs are) in
    let rest = own_faces n fs (All-tail (AreVerticesBelow n) f fs are) in
    λ i. first i ∷ rest i

-- A vertex's place is the one it has in the list.
own_places : (places : List Place) → map (place_in_list places) (own (length places)) ≡ places
own_places places =
    let n : ℕ = length places in
    let long : length (own n) ≡ n = length-range_with_len 0 n in
    ext_get_or origin (map (place_in_list places) (own n)) places
    (length-map (own n) (place_in_list places) ∙ long) (λ v l.
    let low : v < n = omega (arith, l, length-map (own n) (place_in_list places), long) in
    get_or-map (place_in_list places) (own n) v 0 origin (subst (λ k. v < k) (sym long) low)
    ∙ ap (place_in_list places) (own_name n v low))

-- A side runs from one of the vertices.
begins_low : (n : ℕ) (fs : List Corners) → All (AreVerticesBelow n) fs → (e : ℕ)
    → e < side_count (net_of fs) → (net_of fs).from e < n
begins_low n fs all e l =
    let f = All-get_or (AreVerticesBelow n) fs (e / 3) no_corners (omega arith) all in
    elim (side_turned fs e (e / 3) refl) [
      | inl t ↦ subst (λ k. k < n) t.a f.a
      | inr u ↦ elim u [ inl t ↦ subst (λ k. k < n) t.b f.b | inr t ↦ subst (λ k. k < n) t.c f.c ]
    ]

pub fit_meshes_stay : (places : List Place) (faces : List Corners)
    → IsWithinMesh (length places) faces → AllStand (net_of faces)
    → IsOrientedManifold (net_of faces) → AreFit places faces
    → IsPrepared places faces (record { points = places; faces = faces })
fit_meshes_stay places faces within stand is fit =
    let n : ℕ = length places in
    let same : kept_of (joined_faces (own n) faces) ≡ faces =
    ap kept_of (own_faces n faces within.corners) ∙ manifolds_stay faces stand is in
    let (flags, turns) = chosen_turns_are_there (net_of faces) places in
    let untouched : turned_by flags faces ≡ faces =
    manifolds_are_kept faces places flags stand is turns in
    let split = manifolds_are_their_own_split faces n is
    (begins_low n faces within.corners) fit.used in
    let split_turned : IsSplitMesh (net_of (turned_by flags faces)) faces (own n) =
    subst (λ (fs : List Corners). IsSplitMesh (net_of fs) faces (own n)) (sym untouched) split in
    record {
      names = own n;
      joined = own_joined places faces fit;
      flags = flags;
      turns = subst (λ (fs : List Corners). AreChosenTurns (net_of fs) places flags)
          (sym same) turns;
      old = own n;
      split = subst (λ (fs : List Corners). IsSplitMesh (net_of (turned_by flags fs)) faces (own n))
          (sym same) split_turned;
      stand = sym (own_places places);
    }
