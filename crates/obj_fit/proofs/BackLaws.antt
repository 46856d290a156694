-- The first line of what is written leads back to the points of the text.
use Rattle.std.proofs.Common.{◌≡◌, ℕ, ◌<◌, List, length, Option, Result, Ok, IfOk, refl, sym, subst}
use Rattle.std.specs.List.{All}
use Rattle.pm_base.specs.Place.{Place}
use Rattle.pm_base.specs.Meshes.{Mesh}
use Rattle.obj_read.specs.Meaning.{meaning_of}
use Rattle.obj_scan.specs.Judged.{Scanned}
use Rattle.mesh_scan.specs.Meaning.{mesh_meaning_of}
use Rattle.obj_prepare.specs.declared.placing.Fit.{Fit}
use Rattle.obj_prepare.specs.declared.placing.Fit.TheVariants as fits
use Rattle.obj_prepare.specs.Named.{AreVerticesBelow, of_three}
use Rattle.obj_prepare.specs.Joining.{place_in_list}
use Rattle.obj_prepare.specs.Placing.{IsSize}
use Rattle.obj_prepare.specs.Back.{way_back_of, LeadsBack}
use Rattle.obj_prepare.proofs.AgainLaws.{place_from}
use Rattle.obj_prepare.proofs.BackLaws.{places_lead_back}
use Rattle.obj_prepare.proofs.BecameLaws.{triangles_are_told}
use Rattle.obj_prepare.proofs.PlacingLaws.{length-places_of}
use Rattle.obj_prepare.proofs.ThreeLaws.{three_all}
use Rattle.obj_fit.specs.declared.fault.Fault.{Fault}
use Rattle.obj_fit.specs.Texts.{head_line}
use Rattle.obj_fit.specs.Outcome.{Done, MakesPrepared, cut_in, fit_in, places_in, IsPreparedText}
use Rattle.obj_fit.specs.Outcome.{bad_file, too_many, no_face, made}
use Rattle.obj_fit.specs.Laws.{LineLeadsBack, as_it_stood, near, TextLeadsBack, TextsLeadBack}
use Rattle.obj_fit.proofs.RecutLaws.{cut_below, cut_named}
use Rattle.obj_fit.proofs.SoundLaws.{meaning_sound}
use Rattle.obj_fit.proofs.GridLaws.{IsMeasured, fit_of_measured}
use Rattle.obj_fit.proofs.NumeralLaws.{tells_way}
use Rattle.obj_fit.proofs.OutcomeLaws.{one_scanned}
use Rattle.obj_fit.proofs.AgainLaws.{one_mesh}
use Rattle.obj_fit.proofs.ReadLaws.{mesh_is_read}

-- The line of points that were brought onto the grid so.
line_leads : (fit : Fit) (place p : Place) → IsMeasured fit → LeadsBack fit place p
    → LineLeadsBack (head_line fit) place p
line_leads fits.Standing place p measured leads = as_it_stood refl leads
line_leads (fits.Scaled size b) place p (few, low, high) leads =
    near (way_back_of size b) (tells_way size b few low high) leads

made_leads_back : (size : Option ℕ) (bytes : List ℕ) (s : Scanned) (done : Done) → IsSize size
    → mesh_meaning_of bytes ≡ Ok s → (k : MakesPrepared size s done)
    → TextLeadsBack s (places_in size s) done.text k.mesh
made_leads_back size bytes s done is means k =
    let fit : Fit = fit_in size s in
    let places = places_in size s in
    let three = of_three s.faces in
    let cut = of_three (cut_in size s) in
    let sound = meaning_sound bytes s means in
    let measured = fit_of_measured size s.points three is sound.exact in
    let long : length places ≡ length s.points = length-places_of size s.points three in
    let own = subst (λ (n : ℕ). All (AreVerticesBelow n) cut) (sym long)
    (three_all (AreVerticesBelow (length s.points)) (cut_in size s)
    (cut_below size s sound.within)) in
    record {
      line = head_line fit;
      text_is = k.text_is;
      back = λ v l named. line_leads fit (place_in_list places v)
          (place_in_list s.points v) measured (places_lead_back size s.points three v is l named);
      from = λ w l. let (v, low, named, same) = place_from places cut k.mesh own k.prepared.0 w
          l in (v, subst (λ (n : ℕ). v < n) long low, cut_named size s v named, same);
      triangles = triangles_are_told places cut k.mesh own k.prepared.0;
    }

outcome_leads_back : (size : Option ℕ) (bytes : List ℕ) (r : Result Done Fault) (place : Option ℕ)
    → IsSize size → IsPreparedText size bytes r place
    → IfOk r (λ done. (s : Scanned) (m : Mesh) → mesh_meaning_of bytes ≡ Ok s
    → meaning_of 0 done.text ≡ Ok m → 0 < length m.faces
    → TextLeadsBack s (places_in size s) done.text m)
outcome_leads_back size bytes found place is (bad_file r means) = tt
outcome_leads_back size bytes found place is (too_many s means many) = tt
outcome_leads_back size bytes found place is (no_face s means none) = tt
outcome_leads_back size bytes found place is (made t done means k) = λ s m spells read some.
    let own = one_mesh (meaning_of 0 done.text) k.mesh m (mesh_is_read size bytes t done is means k)
    read in
    let same = one_scanned (mesh_meaning_of bytes) t s means spells in
    subst (λ (u : Scanned). TextLeadsBack u (places_in size u) done.text m) same
    (subst (TextLeadsBack t (places_in size t) done.text) own
    (made_leads_back size bytes t done is means k))

pub texts_lead_back : TextsLeadBack
texts_lead_back size bytes s done place m is spells outcome read some =
    outcome_leads_back size bytes (Ok done) place is outcome s m spells read some
