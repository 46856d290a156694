-- Vertices that stand for all at their place.
use Rattle.std.proofs.Common.{◌≡◌, ℕ, ◌/◌, ◌%◌, ◌<◌, true, List, [], length, get_or, inl, inr, refl}
use Rattle.std.proofs.Common.{sym, ◌∙◌, subst, Bool, arith}
use Rattle.std.specs.List.{All}
use Rattle.std.proofs.lemmas.Bool.{cases_order}
use Rattle.std.proofs.lemmas.List.{length-map, get_or-map}
use Rattle.std.proofs.lemmas.List.Elements.{All-nil, All-get_or, All-from_get_or}
use Rattle.pm_base.specs.declared.mesh.Corners.{Corners}
use Rattle.pm_base.specs.Place.{Place}
use Rattle.pm_base.specs.Sides.{net_of, side_count, no_corners}
use Rattle.pm_base.proofs.NetLaws.{face_at}
use Rattle.pm_fans.specs.Kept.{kept_of}
use Rattle.pm_turn.specs.Turning.{turned_by}
use Rattle.obj_prepare.specs.Named.{is_some_corner, AreVerticesBelow}
use Rattle.obj_prepare.specs.Joining.{place_in_list, IsFirstAt, AreJoined, renamed, joined_faces}
use Rattle.obj_prepare.specs.Prepared.{staying}
use Rattle.obj_prepare.proofs.PieceLaws.{named_low, corners_named, kept_after_all, corner_in_has}
use Rattle.obj_prepare.proofs.TurnedLaws.{turned_all}

module _ (places : List Place) (faces : List Corners) where
  abbrev pub IsOwn : ℕ → Type 0
  IsOwn u = IsFirstAt places faces u u

  record AreOwn (f : Corners) : Type 0 where
    a : IsOwn f.a
    b : IsOwn f.b
    c : IsOwn f.c

  own_of : (v u : ℕ) → IsFirstAt places faces v u → IsOwn u
  own_of v u first = record {
    named = first.named;
    same = refl;
    least = λ w l named same. first.least w l named (same ∙ first.same);
  }

  pub one_place : (u v : ℕ) → IsOwn u → IsOwn v → place_in_list places u ≡ place_in_list places v
      → u ≡ v
  one_place u v a b same =
      elim (cases_order u v) [
        | inl is ↦ is
        | inr k ↦ elim k [
          | inl l ↦ absurd (b.least u l a.named same)
          | inr l ↦ absurd (a.least v l b.named (sym same))
        ]
      ]

  module _ (names : List ℕ) (within : All (AreVerticesBelow (length places)) faces)
      (joined : AreJoined places faces names) where
    name_own : (v : ℕ) → is_some_corner faces v ≡ true → IsOwn (get_or names v 0)
    name_own v named = own_of v _
        (joined.each v (named_low (length places) faces v within named) named)

    joined_own : (i : ℕ) → i < length faces → AreOwn (renamed names (face_at faces i))
    joined_own i l =
        let are = corners_named faces i l in
        record { a = name_own _ are.a; b = name_own _ are.b; c = name_own _ are.c }

    all_own : All AreOwn (joined_faces names faces)
    all_own = All-from_get_or AreOwn (joined_faces names faces) no_corners (λ i l.
        let low : i < length faces = omega (arith, length-map faces (renamed names), l) in
        subst AreOwn (sym (get_or-map (renamed names) faces i no_corners no_corners low))
        (joined_own i low))

    kept_own : All AreOwn (staying names faces)
    unfolding kept_of
    kept_own = kept_after_all AreOwn [] (joined_faces names faces) (All-nil AreOwn) all_own

    pub side_own : (flags : List Bool) (e : ℕ)
        → e < side_count (net_of (turned_by flags (staying names faces)))
        → IsOwn ((net_of (turned_by flags (staying names faces))).from e)
    side_own flags e l =
        let fs = turned_by flags (staying names faces) in
        let own = turned_all AreOwn (λ f are. record { a = are.a; b = are.c; c = are.b }) flags
        (staying names faces) kept_own in
        let are = All-get_or AreOwn fs (e / 3) no_corners (omega arith) own in
        corner_in_has IsOwn (face_at fs (e / 3)) (e % 3) are.a are.b are.c
