-- What is made of placed vertices and triangles is a well-formed oriented manifold.
use Rattle.std.proofs.Common.{◌≡◌, ℕ, ◌<◌, ◌≤◌, Bool, List, length, map, refl, sym, ◌∙◌, ap, subst}
use Rattle.std.proofs.lemmas.Grind.{common_steps}
use Rattle.std.proofs.Common.{arith}
use Rattle.std.specs.List.{All}
use Rattle.std.proofs.lemmas.List.{length-map}
use Rattle.pm_base.specs.declared.mesh.Corners.{Corners}
use Rattle.pm_base.specs.Place.{Place}
use Rattle.pm_base.specs.Meshes.{IsWellFormed}
use Rattle.pm_base.specs.Sides.{net_of}
use Rattle.pm_base.specs.Fans.{IsOrientedManifold}
use Rattle.pm_base.specs.Counts.{count}
use Rattle.pm_fans.specs.Splits.{IsCuttable}
use Rattle.pm_turn.specs.declared.counts.TurnCounts.{TurnCounts}
use Rattle.pm_turn.specs.Turning.{turned_by}
use Rattle.pm_turn.specs.Choice.{ArePlaced}
use Rattle.pm_turn.specs.Told.{AreTurnCounts}
use Rattle.pm_turn.proofs.TurnedFaces.{turned_faces_stay, turned_faces_become_manifolds}
use Rattle.pm_fans.specs.Orders.{IsSplitMesh}
use Rattle.pm_fans.specs.Kept.{kept_of}
use Rattle.pm_fans.proofs.KeptLaws.{kept_are_fit}
use Rattle.obj_prepare.specs.declared.notes.Notes.{Notes}
use Rattle.obj_prepare.specs.Named.{IsWithinMesh, is_some_corner}
use Rattle.obj_prepare.specs.Joining.{place_in_list, AreJoined, renamed, joined_faces}
use Rattle.obj_prepare.specs.Prepared.{staying, AreNotes, IsPrepared, IsPreparedWith, HasTooMany}
use Rattle.obj_prepare.specs.Pieces.{ArePieces}
use Rattle.obj_prepare.proofs.AccountLaws.{stay_few}
use Rattle.obj_prepare.proofs.TurnedLaws.{turned_within}
use Rattle.obj_prepare.proofs.PieceLaws.{renamed_within, kept_within, side_low, kept_cuttable}
use Rattle.obj_prepare.proofs.PieceLaws.{old_low, split_formed}

-- What is known of the pieces.

pub joined_cuttable : (places : List Place) (faces : List Corners) (names again : List ℕ)
    (renamed renamed_again stay : List Corners) → IsWithinMesh (length places) faces
    → AreJoined places faces names → again ≡ names → renamed ≡ joined_faces again faces
    → renamed_again ≡ renamed → stay ≡ kept_of renamed_again → IsCuttable (net_of stay)
joined_cuttable places faces names again renamed renamed_again stay within are same is same_faces
    kept =
    rw (kept, same_faces, is, same)
    (kept_cuttable kept_are_fit (length places) (joined_faces names faces)
    (renamed_within places faces names within are))

-- Their vertices have places.
pub joined_placed : (places : List Place) (faces : List Corners) (names again : List ℕ)
    (renamed renamed_again stay : List Corners)
    → IsWithinMesh (length places) faces → AreJoined places faces names → again ≡ names
    → renamed ≡ joined_faces again faces → renamed_again ≡ renamed → stay ≡ kept_of renamed_again
    → ArePlaced (net_of stay) places
joined_placed places faces names again renamed renamed_again stay within are same is same_faces kept
    =
    let low = kept_within (length places) (joined_faces names faces)
    (renamed_within places faces names within are) in
    rw (kept, same_faces, is, same)
    (λ e l. side_low (length places) (kept_of (joined_faces names faces)) low e l)

-- Turned faces that stay can be cut.
turned_cuttable : (n : ℕ) (flags : List Bool) (fs : List Corners) → IsWithinMesh n fs
    → IsCuttable (net_of (turned_by flags (kept_of fs)))
turned_cuttable n flags fs within =
    subst (λ (gs : List Corners). IsCuttable (net_of gs)) (turned_faces_stay flags fs)
    (kept_cuttable kept_are_fit n (turned_by flags (kept_of fs))
    (turned_within n flags (kept_of fs) (kept_within n fs within)))

pub joined_turned_cuttable : (places : List Place) (faces : List Corners) (names again : List ℕ)
    (renamed renamed_again stay stay_again : List Corners) (flags : List Bool)
    (turned : List Corners) → IsWithinMesh (length places) faces → AreJoined places faces names
    → again ≡ names → renamed ≡ joined_faces again faces → renamed_again ≡ renamed
    → stay ≡ kept_of renamed_again → stay_again ≡ stay → turned ≡ turned_by flags stay_again
    → IsCuttable (net_of turned)
joined_turned_cuttable places faces names again renamed renamed_again stay stay_again flags turned
    within are same is same_faces kept same_stay turned_is =
    rw (turned_is, same_stay, kept, same_faces, is, same)
    (turned_cuttable (length places) flags (joined_faces names faces)
    (renamed_within places faces names within are))

module _ {places : List Place} {faces : List Corners} {names : List ℕ} {renamed stay : List Corners}
    {flags : List Bool} {counts : TurnCounts} {turned split : List Corners} {old : List ℕ}
    (within : IsWithinMesh (length places) faces)
    (pieces : ArePieces places faces names renamed stay flags counts turned split old) where
  pub pieces_names : length names ≡ length places
  pieces_names = pieces.joined.all

  renamed_low : IsWithinMesh (length places) (joined_faces names faces)
  renamed_low = renamed_within places faces names within pieces.joined

  pub pieces_stay : IsWithinMesh (length places) stay
  pieces_stay = subst (IsWithinMesh (length places)) (sym pieces.stay_is)
      (kept_within (length places) (joined_faces names faces) renamed_low)

  pub pieces_told : AreTurnCounts (net_of (staying names faces)) places flags counts
  pieces_told =
      subst (λ (gs : List Corners). AreTurnCounts (net_of gs) places flags counts)
      pieces.stay_is pieces.told

  turned_here : turned ≡ turned_by flags (staying names faces)
  turned_here = pieces.turned_is ∙ ap (turned_by flags) pieces.stay_is

  pieces_turned : IsWithinMesh (length places) turned
  pieces_turned = subst (IsWithinMesh (length places)) (sym pieces.turned_is)
      (turned_within (length places) flags stay pieces_stay)

  pub pieces_cuttable : IsCuttable (net_of turned)
  pieces_cuttable = subst (λ (fs : List Corners). IsCuttable (net_of fs)) (sym turned_here)
      (turned_cuttable (length places) flags (joined_faces names faces) renamed_low)

  pub pieces_old : All (λ v. v < length places) old
  pieces_old = old_low (length places) turned split old pieces_turned pieces.split_is

  split_here : IsSplitMesh (net_of (turned_by flags (staying names faces))) split old
  split_here = subst (λ (fs : List Corners). IsSplitMesh (net_of fs) split old) turned_here
      pieces.split_is

  pub pieces_manifold : IsOrientedManifold (net_of split)
  pieces_manifold = turned_faces_become_manifolds
      (joined_faces names faces) split flags split_here.split

  pub pieces_formed : (points : List Place) (fs : List Corners)
      → points ≡ map (place_in_list places) old → fs ≡ split → length old ≤ 1048576
      → IsWellFormed (record { points = points; faces = fs })
  pieces_formed points fs is same few =
      rw same (split_formed (net_of turned) split old points pieces_cuttable.short
      pieces_cuttable.stand pieces.split_is
      (ap length is ∙ length-map old (place_in_list places)) few)

  -- A mesh over these faces was prepared.
  prepared_of : (points : List Place) (fs : List Corners) → points ≡ map (place_in_list places) old
      → fs ≡ split → IsPrepared places faces (record { points = points; faces = fs })
  prepared_of points fs is same = grind (arith, common_steps, split_here)

  -- At least as many vertices come out as have faces that stay.
  pub pieces_few : count (is_some_corner stay) (length places) ≤ length old
  unfolding prepared_of
  pieces_few =
      let made = prepared_of (map (place_in_list places) old) split refl refl in
      rw (pieces.stay_is, sym pieces_names) (stay_few places faces _ within.corners made)

  pub pieces_made : (points : List Place) (fs : List Corners) (notes : Notes)
      → points ≡ map (place_in_list places) old → fs ≡ split
      → AreNotes places faces names flags old notes
      → IsPreparedWith places faces (record { points = points; faces = fs }) notes
  unfolding prepared_of
  pieces_made points fs notes is same are = (prepared_of points fs is same, are)

  pub pieces_too_many : 1048576 < length old → HasTooMany places faces
  pieces_too_many many = record {
    mesh = record { points = map (place_in_list places) old; faces = split };
    prepared = prepared_of (map (place_in_list places) old) split refl refl;
    many = omega (arith, length-map old (place_in_list places), many);
  }
