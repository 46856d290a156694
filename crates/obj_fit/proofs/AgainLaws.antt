-- A text that is prepared again comes back.
use Rattle.std.proofs.Common.{◌≡◌, ℕ, ◌<◌, ◌==◌, Bool, true, false, List, length, map, Option, None}
use Rattle.std.proofs.Common.{Result, Ok, IfOk, refl, sym, ap, ◌∙◌, subst, arith}
use Rattle.std.proofs.lemmas.List.{length-map}
use Rattle.std.specs.List.{All}
use Rattle.pm_base.specs.Place.{Place, IsPlace}
use Rattle.pm_base.specs.declared.mesh.Corners.{Corners}
use Rattle.pm_base.specs.Meshes.{Mesh, IsFace, IsWellFormed}
use Rattle.pm_base.specs.Sides.{net_of}
use Rattle.pm_base.specs.Fans.{IsUsed, IsOrientedManifold}
use Rattle.pm_fans.specs.Cuts.{cut_count}
use Rattle.pm_turn.specs.Turning.{turned_by}
use Rattle.pm_turn.proofs.ToldAlways.{turn_counts_are_there}
use Rattle.obj_read.specs.Meaning.{Refused, meaning_of}
use Rattle.obj_scan.specs.Judged.{Scanned}
use Rattle.mesh_scan.specs.Meaning.{mesh_meaning_of}
use Rattle.obj_scan.specs.Laws.{scanned_mesh, scaled_up}
use Rattle.obj_prepare.specs.declared.notes.Notes.{Notes}
use Rattle.obj_prepare.specs.declared.placing.Fit.{Fit}
use Rattle.obj_prepare.specs.declared.placing.Fit.TheVariants as fits
use Rattle.obj_prepare.specs.Named.{AreVerticesBelow, of_three}
use Rattle.obj_prepare.specs.Joining.{place_in_list}
use Rattle.obj_prepare.specs.Different.{rounded_count}
use Rattle.obj_prepare.proofs.DifferentLaws.{none_rounded}
use Rattle.obj_prepare.specs.Placing.{IsSize, fit_of, prepared_places_of}
use Rattle.obj_prepare.specs.Prepared.{staying, joined_count, flat_count, double_count}
use Rattle.obj_prepare.specs.Prepared.{unnamed_count, split_count, gone_count, IsPrepared}
use Rattle.obj_prepare.specs.Prepared.{IsPreparedWith}
use Rattle.obj_prepare.proofs.AgainLaws.{prepared_again, none_turned_again}
use Rattle.obj_prepare.proofs.PlacingLaws.{length-places_of}
use Rattle.obj_prepare.proofs.ThreeLaws.{three_all, three_of_mesh}
use Rattle.obj_fit.specs.declared.fault.Fault.{Fault}
use Rattle.obj_fit.specs.Texts.{output_text, notes_text}
use Rattle.obj_fit.specs.Outcome.{Done, MakesPrepared, cut_in, fit_in, places_in, counts_in}
use Rattle.obj_fit.specs.Outcome.{warning_for, rounded_for, rounded_in, IsPreparedText, bad_file}
use Rattle.obj_fit.specs.Outcome.{too_many, no_face, made}
use Rattle.obj_fit.specs.Laws.{ComesBack, TextsComeBack}
use Rattle.obj_fit.proofs.RecutLaws.{cut_below}
use Rattle.obj_fit.proofs.SoundLaws.{meaning_sound}
use Rattle.obj_fit.proofs.ReadLaws.{made_on_grid, mesh_is_read, made_scanned}
use Rattle.obj_fit.proofs.StandingLaws.{standing_fit, standing_places}
use Rattle.obj_prepare.proofs.RestoredLaws.{none_flat, none_double, none_unnamed, split_as_joined}

-- The numbers of what was done to make a mesh.
numbers : (m : Mesh) → IsPrepared m.points m.faces m → Notes
numbers m p = record {
  joined = joined_count p.names m.faces;
  flat = flat_count p.names m.faces;
  double = double_count p.names m.faces;
  turns = (turn_counts_are_there (net_of (staying p.names m.faces)) m.points p.flags).0;
  cut = cut_count (net_of (turned_by p.flags (staying p.names m.faces)));
  split = split_count p.names m.faces p.old;
  unnamed = unnamed_count (length m.points) m.faces;
  gone = gone_count p.names m.faces;
}

numbered : (m : Mesh) (p : IsPrepared m.points m.faces m)
    → IsPreparedWith m.points m.faces m (numbers m p)
unfolding numbers
numbered m p = (
  p,
  record {
    joined = refl;
    flat = refl;
    double = refl;
    turns = (turn_counts_are_there (net_of (staying p.names m.faces)) m.points p.flags).1;
    cut = refl;
    split = refl;
    unnamed = refl;
    gone = refl;
  },
)

-- What is written and said where a mesh is made of itself.
abbrev standing_done : Mesh → Notes → Done
standing_done m notes = record {
  text = output_text fits.Standing m;
  notes = notes_text (counts_in None (scanned_mesh m) m) notes 0 fits.Standing None;
}

-- None of its vertices is joined by rounding.

rounded_case : (points places : List Place) (faces : List Corners) (joined : ℕ) (nothing : Bool)
    → (joined == 0) ≡ nothing
    → rounded_count points places faces ≡ 0 → rounded_for points places faces joined ≡ 0
rounded_case points places faces joined true is none = rw is refl
rounded_case points places faces joined false is none = rw is none

-- A mesh on the grid all of whose vertices are used is made of its own points in units.
makes_itself : (m : Mesh) (notes : Notes) → IsWellFormed m → IsOrientedManifold (net_of m.faces)
    → 0 < length m.faces → All IsPlace m.points
    → ((v : ℕ) → v < length m.points → IsUsed (net_of m.faces) v)
    → IsPreparedWith m.points m.faces m notes
    → MakesPrepared None (scanned_mesh m) (standing_done m notes)
makes_itself m notes formed manifold some placed used prepared =
    let points = map scaled_up m.points in
    let three : of_three m.faces
    ≡ m.faces = three_of_mesh (length m.points) m.faces formed.corners in
    let fit : fit_in None (scanned_mesh m) ≡ fits.Standing = ap (fit_of None points) three
    ∙ standing_fit m.points m.faces placed in
    let places : places_in None (scanned_mesh m) ≡ m.points = ap
    (prepared_places_of None points) three
    ∙ standing_places m.points m.faces placed used in
    let rounded : rounded_in None (scanned_mesh m) notes ≡ 0 =
    ap (λ ps. rounded_for points ps (of_three m.faces) notes.joined) places
    ∙ rounded_case points m.points (of_three m.faces) notes.joined _ refl
    (none_rounded scaled_up m.points (of_three m.faces)) in
    record {
      mesh = m;
      notes = notes;
      prepared = subst
          (λ (fs : List Corners). IsPreparedWith (prepared_places_of None points fs) fs m notes)
          (sym three)
          (subst (λ ps. IsPreparedWith ps m.faces m notes)
          (sym (standing_places m.points m.faces placed used)) prepared);
      formed = formed;
      manifold = manifold;
      some = some;
      text_is = ap (λ (f : Fit). output_text f m) (sym fit);
      notes_are = ap (λ r. notes_text (counts_in None (scanned_mesh m) m) notes r fits.Standing
          None)
          (sym rounded)
          ∙ ap
          (λ (f : Fit). notes_text (counts_in None (scanned_mesh m) m) notes
          (rounded_in None (scanned_mesh m) notes) f
          (warning_for f points (of_three m.faces) notes.flat)) (sym fit);
    }

corners_of : (n : ℕ) (faces : List Corners) → All (IsFace n) faces → All (AreVerticesBelow n) faces
corners_of n faces all = λ i d l. let f = all i d l in record { a = f.a; b = f.b; c = f.c }

pub one_mesh : (found : Result Mesh Refused) (m n : Mesh) → found ≡ Ok m → found ≡ Ok n → m ≡ n
one_mesh found m n is are = cc

made_comes_back : (size : Option ℕ) (bytes : List ℕ) (s : Scanned) (done : Done) → IsSize size
    → mesh_meaning_of bytes ≡ Ok s → (k : MakesPrepared size s done)
    → meaning_of 0 done.text ≡ Ok k.mesh → ComesBack done.text k.mesh
unfolding numbers numbered
made_comes_back size bytes s done is means k read =
    let m = k.mesh in
    let p = k.prepared.0 in
    let places = places_in size s in
    let three = of_three (cut_in size s) in
    let corners = three_all (AreVerticesBelow (length s.points)) (cut_in size s)
    (cut_below size s (meaning_sound bytes s means).within) in
    let long : length s.points
    ≡ length places = sym (length-places_of size s.points (of_three s.faces)) in
    let low = subst (λ n. All (AreVerticesBelow n) three) long corners in
    let again = prepared_again places three m low p in
    let count : length m.points ≡ length p.old = ap length p.stand
    ∙ length-map p.old (place_in_list places) in
    let used : (v : ℕ) → v < length m.points → IsUsed (net_of m.faces) v =
    λ v l. p.split.used v (omega (arith, count, l)) in
    let told = numbered m again in
    record {
      notes = numbers m again;
      told = told;
      split = split_as_joined m used again (corners_of (length m.points) m.faces k.formed.corners);
      flat = none_flat m used again;
      double = none_double m used again;
      turned = none_turned_again places three m low p (numbers m again).turns told.1.turns;
      unnamed = none_unnamed m used again;
      outcome = made (scanned_mesh m) (standing_done m (numbers m again))
          (made_scanned size bytes s done is means k)
          (makes_itself m (numbers m again) k.formed k.manifold k.some
          (made_on_grid size s done is k) used told);
    }

outcome_comes_back : (size : Option ℕ) (bytes : List ℕ) (r : Result Done Fault) (place : Option ℕ)
    → IsSize size → IsPreparedText size bytes r place
    → IfOk r (λ done. (m : Mesh) → meaning_of 0 done.text ≡ Ok m → ComesBack done.text m)
outcome_comes_back size bytes found place is (bad_file r means) = tt
outcome_comes_back size bytes found place is (too_many s means many) = tt
outcome_comes_back size bytes found place is (no_face s means none) = tt
outcome_comes_back size bytes found place is (made s done means k) = λ m read.
    let own = mesh_is_read size bytes s done is means k in
    subst (ComesBack done.text) (one_mesh (meaning_of 0 done.text) k.mesh m own read)
    (made_comes_back size bytes s done is means k own)

pub texts_come_back : TextsComeBack
texts_come_back size bytes done place m is outcome read =
    outcome_comes_back size bytes (Ok done) place is outcome m read
