-- What a file gives is what its mesh is made of.
use Rattle.std.proofs.Common.{◌≡◌, ℕ, ◌<◌, ◌≤◌, List, ◌++◌, length, Option, Some, None, IfSome}
use Rattle.std.proofs.lemmas.Grind.{common_steps}
use Rattle.std.proofs.Common.{Result, Ok, Err, refl, sym, ◌∙◌, ap, subst, arith}
use Rattle.std.specs.List.{All}
use Rattle.pm_base.specs.declared.mesh.Corners.{Corners}
use Rattle.pm_base.specs.Place.{Place}
use Rattle.pm_base.specs.Meshes.{Mesh, IsWellFormed}
use Rattle.pm_base.specs.Sides.{net_of}
use Rattle.pm_base.specs.Fans.{IsOrientedManifold}
use Rattle.pm_base.specs.Canonical.{canonical_text}
use Rattle.pm_ears.specs.Recutting.{AreBelow}
use Rattle.obj_scan.specs.Judged.{Scanned}
use Rattle.obj_scan.specs.Meaning.{IsWithinLimits}
use Rattle.mesh_scan.specs.declared.fault.MeshFault.{MeshFault}
use Rattle.mesh_scan.specs.Meaning.{Refused, mesh_meaning_of}
use Rattle.mesh_scan.specs.Fails.{IsRefused, IsNotReached, FailsBefore}
use Rattle.obj_prepare.specs.declared.notes.Notes.{Notes}
use Rattle.obj_prepare.specs.declared.placing.Fit.{Fit}
use Rattle.obj_prepare.specs.Prepared.{IsPreparedWith}
use Rattle.obj_prepare.proofs.PlacingLaws.{length-places_of}
use Rattle.obj_fit.specs.Fine.{rounded_faces}
use Rattle.obj_fit.specs.Texts.{head_line, notes_text}
use Rattle.obj_prepare.specs.Named.{IsWithinMesh as IsNamedWithin, of_three}
use Rattle.obj_prepare.proofs.ThreeLaws.{three_within}
use Rattle.obj_fit.specs.declared.fault.Fault.{Fault}
use Rattle.obj_fit.specs.declared.fault.Fault.TheVariants as faults
use Rattle.obj_fit.specs.declared.fault.InputFail.{InputFail}
use Rattle.obj_fit.specs.declared.fault.InputFail.TheVariants as input
use Rattle.obj_fit.specs.Outcome.{Done, MakesPrepared, cut_in, places_in, counts_of, warning_for}
use Rattle.obj_fit.specs.Outcome.{rounded_for, IsPreparedText, bad_file, too_many, no_face, made}
use Rattle.obj_fit.specs.declared.laying.Laid.{Laid}
use Rattle.obj_fit.specs.Making.{IsMakeFail, IsLaid}
use Rattle.obj_fit.proofs.RecutLaws.{cut_long, cut_within}
use Rattle.obj_fit.specs.Fails.{HasPreparedFault, PlaceUnreached, StopsPreparing}

pub named_within : (s : Scanned) → IsWithinLimits s
    → IsNamedWithin (length s.points) (of_three s.faces)
named_within s within = grind (arith, common_steps, three_within (length s.points) s.faces)

pub lent_within : (s : Scanned) (points : List Place) (faces : List Corners) → IsWithinLimits s
    → points ≡ s.points → faces ≡ of_three s.faces → IsNamedWithin (length points) faces
lent_within s points faces within points_are faces_are = rw (points_are, faces_are)
    (named_within s within)

-- So are all triangles.
pub lent_below : (s : Scanned) (places : List Place) (faces : List Corners) → IsWithinLimits s
    → length places ≡ length s.points → faces ≡ s.faces → All (AreBelow (length places)) faces
lent_below s places faces within long are =
    rw (long, are) (λ k d l. let f = within.corners k d l in record { a = f.a; b = f.b; c = f.c })

-- What was laid out is within the limits.

pub laid_places : (size : Option ℕ) (s : Scanned) (laid : Laid) → IsLaid size s laid
    → length laid.placing.places.items ≡ length s.points
laid_places size s laid is =
    ap length is.places ∙ length-places_of size s.points (of_three s.faces)

pub laid_fans : (size : Option ℕ) (s : Scanned) (laid : Laid) → IsWithinLimits s
    → IsLaid size s laid → IsNamedWithin (length s.points) laid.fans.items
laid_fans size s laid within is =
    subst (IsNamedWithin (length s.points)) (sym is.fans) (named_within s within)

pub laid_three : (size : Option ℕ) (s : Scanned) (laid : Laid) → IsWithinLimits s
    → IsLaid size s laid → IsNamedWithin (length s.points) laid.three.items
laid_three size s laid within is =
    subst (IsNamedWithin (length s.points)) (sym is.three)
    (three_within (length s.points) (cut_in size s) (cut_within size s within))

pub laid_lent : (size : Option ℕ) (s : Scanned) (laid : Laid) (places : List Place)
    (three : List Corners) → IsWithinLimits s → IsLaid size s laid
    → places ≡ laid.placing.places.items → three ≡ laid.three.items
    → IsNamedWithin (length places) three
laid_lent size s laid places three within is places_are three_are =
    grind (arith, common_steps, laid_places, laid_three)

pub laid_few : (size : Option ℕ) (s : Scanned) (laid : Laid) → IsWithinLimits s
    → IsLaid size s laid → length laid.cut.faces.items ≤ 1048576
laid_few size s laid within is =
    omega (arith, ap length is.cut, cut_long size s within, within.faces)

pub makes_done : (size : Option ℕ) (s : Scanned) (laid : Laid) (places : List Place)
    (three : List Corners) (m : Mesh) (notes : Notes) (shown : List Corners)
    (head said : List ℕ) → IsLaid size s laid → places ≡ laid.placing.places.items
    → three ≡ laid.three.items → IsPreparedWith places three m notes → IsWellFormed m
    → IsOrientedManifold (net_of m.faces) → shown ≡ m.faces → 0 < length shown
    → head ≡ head_line laid.placing.fit
    → said ≡ notes_text (counts_of s laid.cut.faces.items laid.cut.overlapping
    (rounded_faces laid.placing.fit s.points laid.placing.places.items laid.three.items) m) notes
    (rounded_for s.points laid.placing.places.items laid.three.items notes.joined) laid.placing.fit
    (warning_for laid.placing.fit s.points laid.fans.items notes.flat)
    → MakesPrepared size s (record { text = head ++ canonical_text 0 m; notes = said })
makes_done size s laid places three m notes shown head said is places_are three_are prepared formed
    manifold shown_is some head_is said_is =
    let Said : List Corners → ℕ → List Place → List Corners → List Corners → Fit → List ℕ =
    λ cut n ps fs fans f. notes_text (counts_of s cut n (rounded_faces f s.points ps fs) m) notes
    (rounded_for s.points ps fs notes.joined) f (warning_for f s.points fans notes.flat) in
    record {
      mesh = m;
      notes = notes;
      prepared = subst (λ fs. IsPreparedWith (places_in size s) fs m notes)
          (three_are ∙ is.three)
          (subst (λ ps. IsPreparedWith ps three m notes) (places_are ∙ is.places) prepared);
      formed = formed;
      manifold = manifold;
      some = subst (λ (fs : List Corners). 0 < length fs) shown_is some;
      text_is = ap (λ h. h ++ canonical_text 0 m) (head_is ∙ ap head_line is.fit);
      notes_are = said_is
          ∙ (λ i. Said (is.cut i) (is.overlapping i) (is.places i) (is.three i) (is.fans i)
          (is.fit i));
    }

-- What follows where the source tells its bytes.
module _ (size : Option ℕ) where
  refuses_file : (bytes : List ℕ) (fault : MeshFault) (r : Result Scanned Refused)
      → mesh_meaning_of bytes ≡ r → IsRefused fault r
      → HasPreparedFault size bytes (faults.File fault)
  refuses_file bytes fault (Ok s) is refused = absurd refused
  refuses_file bytes fault (Err r) is refused = record {
    place = r.place;
    outcome = subst (λ (f : MeshFault). IsPreparedText size bytes (Err (faults.File f)) r.place)
        refused (bad_file r is);
  }

  pub file_refuses : (left : Option (List ℕ)) (fault : MeshFault)
      → IfSome left (λ bytes. IsRefused fault (mesh_meaning_of bytes))
      → IfSome left (λ bytes. HasPreparedFault size bytes (faults.File fault))
  file_refuses None fault is = tt
  file_refuses (Some bytes) fault is = refuses_file bytes fault (mesh_meaning_of bytes) refl is

  -- Bytes that don't reach the first fault's place decide nothing.
  text_before : (bytes : List ℕ) (taken : ℕ) → IsNotReached taken (mesh_meaning_of bytes)
      → (r : Result Done Fault) (place : Option ℕ) → IsPreparedText size bytes r place
      → IfSome place (λ n. taken < n)
  text_before bytes taken before found place (bad_file r is) =
      subst (λ (m : Result Scanned Refused). IsNotReached taken m) is before
  text_before bytes taken before found place (too_many s is many) = tt
  text_before bytes taken before found place (no_face s is none) = tt
  text_before bytes taken before found place (made s done is makes) = tt

  pub text_unreached : (left now : Option (List ℕ)) → FailsBefore mesh_meaning_of left now
      → PlaceUnreached size left now
  text_unreached left now fails = record {
    taken = fails.taken;
    took = fails.took;
    before = before left fails.before;
  }
    where
      before : (left : Option (List ℕ))
          → IfSome left (λ bytes. IsNotReached (length fails.taken) (mesh_meaning_of bytes))
          → IfSome left (λ bytes. (r : Result Done Fault) (place : Option ℕ)
          → IsPreparedText size bytes r place → IfSome place (λ n. length fails.taken < n))
      before None is = tt
      before (Some bytes) is = text_before bytes (length fails.taken) is

  pub make_stops : (left now : Option (List ℕ)) (s : Scanned) (e : InputFail) (in_old in_new : ℕ)
      → IfSome left (λ bytes. mesh_meaning_of bytes ≡ Ok s) → in_new ≡ in_old → IsMakeFail size s e
      → StopsPreparing size e left now in_old in_new
  make_stops left now s (input.Faulty (faults.File f)) in_old in_new is same fail = absurd fail
  make_stops None now s (input.Faulty faults.TooMany) in_old in_new is same fail = (tt, same)
  make_stops (Some bytes) now s (input.Faulty faults.TooMany) in_old in_new is same
      fail = (record { place = None; outcome = too_many s is fail }, same)
  make_stops None now s (input.Faulty faults.NoFaces) in_old in_new is same fail = (tt, same)
  make_stops (Some bytes) now s (input.Faulty faults.NoFaces) in_old in_new is same
      fail = (record { place = None; outcome = no_face s is fail }, same)
  make_stops left now s input.Read in_old in_new is same fail = absurd fail
  make_stops left now s input.OutOfMemory in_old in_new is same fail = same

  pub make_stands : (left : Option (List ℕ)) (s : Scanned) (done : Done)
      → IfSome left (λ bytes. mesh_meaning_of bytes ≡ Ok s) → MakesPrepared size s done
      → IfSome left (λ bytes. IsPreparedText size bytes (Ok done) None)
  make_stands None s done is makes = tt
  make_stands (Some bytes) s done is makes = made s done is makes
