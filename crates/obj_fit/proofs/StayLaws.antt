-- A text that needs nothing comes back as it is.
use Rattle.std.proofs.Common.{◌≡◌, ℕ, ◌-◌, ◌<◌, List, [], ◌∷◌, ◌++◌, length, map, Option}
use Rattle.std.proofs.lemmas.Grind.{common_steps}
use Rattle.std.proofs.Common.{None, Ok, refl, sym, ap, ◌∙◌, subst, arith}
use Rattle.std.specs.List.{All}
use Rattle.std.proofs.lemmas.List.{length-map}
use Rattle.pm_base.specs.Place.{Place, IsPlace}
use Rattle.pm_base.specs.declared.mesh.Corners.{Corners}
use Rattle.pm_base.specs.Meshes.{Mesh, IsWellFormed}
use Rattle.pm_base.specs.Sides.{net_of}
use Rattle.pm_base.specs.Fans.{IsUsed}
use Rattle.pm_base.proofs.NetLaws.{mesh_side}
use Rattle.pm_turn.specs.Turning.{turned_by}
use Rattle.pm_turn.specs.Told.{AreInsideOut}
use Rattle.obj_read.proofs.FormedLaws.{meaning_formed}
use Rattle.obj_read.proofs.PlacedLaws.{meaning_placed}
use Rattle.obj_scan.specs.Judged.{Scanned}
use Rattle.obj_scan.specs.Meaning.{scan_meaning_of}
use Rattle.mesh_scan.specs.Meaning.{of_obj, mesh_meaning_of}
use Rattle.obj_scan.specs.Laws.{scanned_mesh, with_passed, passed_in, scaled_up}
use Rattle.obj_scan.proofs.ReadLaws.{read_scanned}
use Rattle.obj_prepare.specs.declared.placing.Fit.TheVariants as fits
use Rattle.obj_scan.specs.Meaning.{IsWithinLimits}
use Rattle.obj_prepare.specs.Named.{IsWithinMesh, of_three}
use Rattle.obj_prepare.specs.Joining.{place_in_list, joined_faces}
use Rattle.obj_prepare.specs.Placing.{fit_of, prepared_places_of}
use Rattle.obj_prepare.specs.Prepared.{staying, IsPrepared, IsPreparedWith}
use Rattle.obj_prepare.specs.Laws.{AreFit}
use Rattle.obj_prepare.proofs.FitMeshes.{fit_meshes_stay}
use Rattle.obj_prepare.proofs.PieceLaws.{corners_named, split_formed}
use Rattle.obj_prepare.proofs.PlacingLaws.{length-places_of}
use Rattle.obj_prepare.proofs.ThreeLaws.{three_of_manifold, three_of_mesh}
use Rattle.obj_prepare.proofs.TurnedLaws.{turned_stand}
use Rattle.obj_fit.specs.Thin.{thin_count}
use Rattle.obj_scan.specs.declared.passed.PassedOver.{PassedOver}
use Rattle.obj_fit.specs.Fine.{rounded_faces}
use Rattle.obj_fit.specs.Texts.{output_text, note_line, polygon_notes, inexact_note, rounded_notes}
use Rattle.obj_fit.specs.Texts.{passed_notes, inward_note, thin_note, last_note, notes_text}
use Rattle.obj_fit.specs.Outcome.{Done, MakesPrepared, cut_in, fit_in, places_in, counts_in}
use Rattle.obj_fit.specs.Outcome.{IsPreparedText, made}
use Rattle.obj_fit.specs.Laws.{NeedsNothing, as_it_is, FitScansStay, FitTextsStay}
use Rattle.obj_fit.proofs.RecutLaws.{cut_long, cut_named, cut_within}
use Rattle.obj_fit.proofs.SoundLaws.{meaning_sound, text_means}
use Rattle.obj_fit.proofs.StandingLaws.{standing_fit, standing_places}
use Rattle.obj_prepare.specs.Nothing.{nothing_done}
use Rattle.obj_prepare.proofs.NothingLaws.{nothing_told}
use Rattle.obj_fit.proofs.NothingLaws.{nothing_said, no_account, no_warning}

-- A mesh that is made of itself is well formed.
itself_formed : (places : List Place) (faces : List Corners) → IsWithinMesh (length places) faces
    → IsPrepared places faces (record { points = places; faces = faces })
    → IsWellFormed (record { points = places; faces = faces })
itself_formed places faces within p =
    let long : length places ≡ length p.old = ap length p.stand
    ∙ length-map p.old (place_in_list places) in
    let turned : List Corners = turned_by p.flags (staying p.names faces) in
    let stay : length faces ≡ length turned = p.split.split.faces in
    split_formed (net_of turned) faces p.old places (omega (arith, stay, within.faces_few))
    (turned_stand p.flags (joined_faces p.names faces)) p.split long
    (omega (arith, long, within.vertices_few))

-- The triangles of a text over the places of its points.
placed_within : (size : Option ℕ) (s : Scanned) → IsWithinLimits s
    → IsWithinMesh (length (places_in size s)) (cut_in size s)
placed_within size s within =
    subst (λ (n : ℕ). IsWithinMesh n (cut_in size s))
    (sym (length-places_of size s.points (of_three s.faces))) (cut_within size s within)

-- Where triangles of three vertices came out there were some.
some_fans : (size : Option ℕ) (s : Scanned) (fans cut : List Corners) → fans ≡ of_three s.faces
    → cut ≡ of_three (cut_in size s) → 0 < length cut → 0 < length fans
some_fans size s (f ∷ fans) cut is are some = omega arith
some_fans size s [] [] is are some = absurd (omega (arith, some))
some_fans size s [] (f ∷ cut) is are some =
    grind (arith, common_steps, corners_named (f ∷ cut) 0, cut_named size s f.a)

stays_made : (size : Option ℕ) (bytes : List ℕ) (s : Scanned) → mesh_meaning_of bytes ≡ Ok s
    → NeedsNothing size s → (k : ℕ) × AreInsideOut (net_of (cut_in size s)) (places_in size s) k
    × MakesPrepared size s (as_it_is size s k)
stays_made size bytes s means needs =
    let limits = (meaning_sound bytes s means).within in
    let places = places_in size s in
    let cut = cut_in size s in
    let fans = of_three s.faces in
    let m : Mesh = record { points = places; faces = cut } in
    let within = placed_within size s limits in
    let p : IsPrepared places cut m =
    fit_meshes_stay places cut within needs.stand needs.manifold needs.fit in
    let (k, inward, told) = nothing_told m within.corners needs.manifold needs.fit p in
    let three : of_three cut ≡ cut = three_of_manifold cut needs.stand needs.manifold in
    let vertices : length s.points
    ≡ length places = sym (length-places_of size s.points fans) in
    let twice : length cut - length (of_three cut) ≡ 0 = omega (arith, ap length three) in
    let some : 0 < length fans = some_fans size s fans (of_three cut) refl refl
    (subst (λ (fs : List Corners). 0 < length fs) (sym three) needs.some) in (
      k,
      inward,
      record {
        mesh = m;
        notes = nothing_done k;
        prepared = subst (λ (fs : List Corners). IsPreparedWith places fs m (nothing_done k))
            (sym three) (p, told);
        formed = itself_formed places cut within p;
        manifold = needs.manifold;
        some = needs.some;
        text_is = refl;
        notes_are = sym
            (ap (notes_text (counts_in size s m) (nothing_done k) 0 (fit_in size s))
            (no_warning (fit_in size s) s.points fans some)
            ∙ nothing_said (counts_in size s m) 0 k (fit_in size s)
            (no_account (counts_in size s m) vertices (sym (cut_long size s limits))) twice);
      },
    )

pub fit_scans_stay : FitScansStay
fit_scans_stay size bytes s means needs =
    let (k, inward, makes) = stays_made size bytes s means needs in
    (k, inward, made s (as_it_is size s k) means makes)

-- A mesh on the grid all of whose vertices are used stands as it is.
abbrev standing_as_it_is : PassedOver → Mesh → ℕ → Done
standing_as_it_is n m k = record {
  text = output_text fits.Standing m;
  notes = passed_notes n
      ++ inward_note k
      ++ thin_note (thin_count m.points m.faces)
      ++ last_note fits.Standing;
}

stands_as_it_is : (n : PassedOver) (m : Mesh) (k : ℕ) → of_three m.faces ≡ m.faces
    → All IsPlace m.points
    → ((v : ℕ) → v < length m.points → IsUsed (net_of m.faces) v)
    → as_it_is None (with_passed n (scanned_mesh m)) k ≡ standing_as_it_is n m k
unfolding note_line polygon_notes inexact_note rounded_notes
stands_as_it_is n m k three placed used =
    let points = map scaled_up m.points in
    let fit = ap (fit_of None points) three ∙ standing_fit m.points m.faces placed in
    let places = ap (prepared_places_of None points) three
    ∙ standing_places m.points m.faces placed used in
    λ i. record {
      text = output_text (fit i) (record { points = places i; faces = m.faces });
      notes = rounded_notes (rounded_faces (fit i) points (places i) (of_three m.faces))
          ++ passed_notes n
          ++ inward_note k
          ++ thin_note (thin_count (places i) m.faces)
          ++ last_note (fit i);
    }

pub fit_texts_stay : FitTextsStay
fit_texts_stay bytes m is_obj formed_so read some manifold fit =
    let formed = meaning_formed 0 bytes m read in
    let placed = meaning_placed 0 bytes m read in
    let three : of_three m.faces
    ≡ m.faces = three_of_mesh (length m.points) m.faces formed.corners in
    let places = ap (prepared_places_of None (map scaled_up m.points)) three
    ∙ standing_places m.points m.faces placed fit.used in
    let n = passed_in (scan_meaning_of bytes) in
    let needs : NeedsNothing None (with_passed n (scanned_mesh m)) = record {
      some = some;
      stand = λ e l. (mesh_side m formed e l).0;
      manifold = manifold;
      fit = subst (λ (ps : List Place). AreFit ps m.faces) (sym places) fit;
    } in
    let (k, inward, stays) =
    fit_scans_stay None bytes (with_passed n (scanned_mesh m))
    (text_means bytes is_obj ∙ ap of_obj (read_scanned bytes m formed_so read)) needs in (
      k,
      subst (λ (ps : List Place). AreInsideOut (net_of m.faces) ps k) places inward,
      subst (λ (d : Done). IsPreparedText None bytes (Ok d) None)
          (stands_as_it_is n m k three placed fit.used) stays,
    )
