-- A text has one outcome.
use Rattle.std.proofs.lemmas.List.{length-map}
use Rattle.pm_base.specs.declared.mesh.Corners.{Corners}
use Rattle.pm_base.specs.Place.{Place}
use Rattle.obj_prepare.specs.Joining.{place_in_list}
use Rattle.std.proofs.Common.{◌≡◌, ℕ, List, length, Option, Result, Ok, Err, refl, sym, ap, ◌∙◌}
use Rattle.std.proofs.Common.{subst, arith}
use Rattle.pm_base.specs.Meshes.{Mesh}
use Rattle.obj_scan.specs.Judged.{Scanned}
use Rattle.mesh_scan.specs.Meaning.{Refused, mesh_meaning_of}
use Rattle.obj_prepare.specs.declared.notes.Notes.{Notes}
use Rattle.obj_prepare.specs.declared.placing.Fit.{Fit}
use Rattle.obj_prepare.specs.Named.{of_three}
use Rattle.obj_prepare.specs.Prepared.{HasTooMany}
use Rattle.obj_prepare.proofs.OnePrepared.{prepared_are_one, notes_are_one}
use Rattle.obj_fit.specs.declared.fault.Fault.{Fault}
use Rattle.obj_fit.specs.declared.fault.Fault.TheVariants as faults
use Rattle.obj_fit.specs.Texts.{output_text, notes_text}
use Rattle.obj_fit.specs.Outcome.{Done, MakesPrepared, cut_in, fit_in, places_in, counts_in}
use Rattle.obj_fit.specs.Outcome.{rounded_in, warning_in, IsPreparedText, LeavesNoFace, bad_file}
use Rattle.obj_fit.specs.Outcome.{too_many, no_face, made}

one_refused : (found : Result Scanned Refused) (r q : Refused) → found ≡ Err r → found ≡ Err q
    → r ≡ q
one_refused found r q is are = cc

pub one_scanned : (found : Result Scanned Refused) (s t : Scanned) → found ≡ Ok s → found ≡ Ok t
    → s ≡ t
one_scanned found s t is are = cc

not_both : (found : Result Scanned Refused) (r : Refused) (s : Scanned) → found ≡ Err r
    → found ≡ Ok s → ⊥
not_both found r s is are = cc

-- The texts tell of one mesh and of one list of numbers.
one_made : (size : Option ℕ) (s : Scanned) (done other : Done) → MakesPrepared size s done
    → MakesPrepared size s other → done ≡ other
one_made size s done other a b =
    let fit : Fit = fit_in size s in
    let mesh = prepared_are_one (places_in size s)
    (of_three (cut_in size s)) a.mesh b.mesh a.prepared.0 b.prepared.0 in
    let notes = notes_are_one (places_in size s)
    (of_three (cut_in size s)) a.mesh b.mesh a.notes b.notes a.prepared b.prepared in
    let text = a.text_is ∙ ap (output_text fit) mesh ∙ sym b.text_is in
    let said = a.notes_are
    ∙ ap (λ (n : Notes). notes_text (counts_in size s a.mesh) n (rounded_in size s n) fit
    (warning_in size s n)) notes
    ∙ ap (λ (m : Mesh). notes_text (counts_in size s m) b.notes (rounded_in size s b.notes) fit
    (warning_in size s b.notes))
    mesh ∙ sym b.notes_are in
    λ i. record { text = text i; notes = said i }

-- A mesh that is made doesn't have too many vertices.
not_too_many : (size : Option ℕ) (s : Scanned) (done : Done)
    → HasTooMany (places_in size s) (of_three (cut_in size s)) → MakesPrepared size s done → ⊥
not_too_many size s done over makes =
    let mesh = prepared_are_one (places_in size s)
    (of_three (cut_in size s)) over.mesh makes.mesh over.prepared makes.prepared.0 in
    absurd (omega (arith, over.many, makes.formed.points, ap (λ (m : Mesh). length m.points) mesh))

-- A mesh that is made has faces.
not_without : (size : Option ℕ) (s : Scanned) (done : Done)
    → LeavesNoFace (places_in size s) (of_three (cut_in size s)) → MakesPrepared size s done → ⊥
not_without size s done leaves makes =
    let mesh = prepared_are_one (places_in size s)
    (of_three (cut_in size s)) leaves.mesh makes.mesh leaves.prepared makes.prepared.0 in
    absurd (omega (arith, leaves.none, makes.some, ap (λ (m : Mesh). length m.faces) mesh))

-- Too many vertices have faces.
not_over : (places : List Place) (faces : List Corners) → HasTooMany places faces
    → LeavesNoFace places faces → ⊥
not_over places faces over leaves =
    let mesh = prepared_are_one places faces over.mesh leaves.mesh over.prepared leaves.prepared in
    let p = over.prepared in
    let long : length over.mesh.points ≡ length p.old = ap length p.stand
    ∙ length-map p.old (place_in_list places) in
    let (e, t, at) = p.split.used 0 (omega (arith, long, over.many)) in
    absurd (omega (arith, t.is_side, leaves.none, ap (λ (m : Mesh). length m.faces) mesh))

module _ (size : Option ℕ) (bytes : List ℕ) where
  over_or_made : (s t : Scanned) (done : Done) → mesh_meaning_of bytes ≡ Ok s
      → mesh_meaning_of bytes ≡ Ok t → HasTooMany (places_in size s) (of_three (cut_in size s))
      → MakesPrepared size t done → ⊥
  over_or_made s t done is are over makes =
      not_too_many size s done over
      (subst (λ (u : Scanned). MakesPrepared size u done)
      (one_scanned (mesh_meaning_of bytes) t s are is) makes)

  none_or_made : (s t : Scanned) (done : Done) → mesh_meaning_of bytes ≡ Ok s
      → mesh_meaning_of bytes ≡ Ok t → LeavesNoFace (places_in size s) (of_three (cut_in size s))
      → MakesPrepared size t done → ⊥
  none_or_made s t done is are leaves makes = not_without size s done leaves
      (subst (λ (u : Scanned). MakesPrepared size u done)
      (one_scanned (mesh_meaning_of bytes) t s are is) makes)

  over_or_none : (s t : Scanned) → mesh_meaning_of bytes ≡ Ok s → mesh_meaning_of bytes ≡ Ok t
      → HasTooMany (places_in size s) (of_three (cut_in size s))
      → LeavesNoFace (places_in size t) (of_three (cut_in size t)) → ⊥
  over_or_none s t is are over leaves =
      not_over (places_in size s) (of_three (cut_in size s)) over
      (subst (λ (u : Scanned). LeavesNoFace (places_in size u) (of_three (cut_in size u)))
      (one_scanned (mesh_meaning_of bytes) t s are is) leaves)

  abbrev refusal : Refused → Result Done Fault
  refusal r = Err (faults.File r.fault)

  pub one_outcome : (one other : Result Done Fault) (place there : Option ℕ)
      → IsPreparedText size bytes one place → IsPreparedText size bytes other there
      → (one ≡ other) × (place ≡ there)
  one_outcome one other place there (bad_file r is) (bad_file q are) =
      let same = one_refused (mesh_meaning_of bytes) r q is are in
      (ap refusal same, ap (λ (f : Refused). f.place) same)
  one_outcome one other place there (bad_file r is) (too_many t are over) =
      absurd (not_both (mesh_meaning_of bytes) r t is are)
  one_outcome one other place there (bad_file r is) (no_face t are none) = absurd
      (not_both (mesh_meaning_of bytes) r t is are)
  one_outcome one other place there (bad_file r is) (made t done are makes) =
      absurd (not_both (mesh_meaning_of bytes) r t is are)
  one_outcome one other place there (too_many s is over) (bad_file q are) =
      absurd (not_both (mesh_meaning_of bytes) q s are is)
  one_outcome one other place there (too_many s is over) (too_many t are more) = (refl, refl)
  one_outcome one other place there (too_many s is over) (no_face t are none) = absurd
      (over_or_none s t is are over none)
  one_outcome one other place there (too_many s is over) (made t done are makes) =
      absurd (over_or_made s t done is are over makes)
  one_outcome one other place there (no_face s is none) (bad_file q are) = absurd
      (not_both (mesh_meaning_of bytes) q s are is)
  one_outcome one other place there (no_face s is none) (too_many t are over) = absurd
      (over_or_none t s are is over none)
  one_outcome one other place there (no_face s is none) (no_face t are more) = (refl, refl)
  one_outcome one other place there (no_face s is none) (made t done are makes) = absurd
      (none_or_made s t done is are none makes)
  one_outcome one other place there (made s done is makes) (bad_file q are) =
      absurd (not_both (mesh_meaning_of bytes) q s are is)
  one_outcome one other place there (made s done is makes) (too_many t are over) =
      absurd (over_or_made t s done are is over makes)
  one_outcome one other place there (made s done is makes) (no_face t are none) = absurd
      (none_or_made t s done are is none makes)
  one_outcome one other place there (made s done is makes) (made t more are again) =
      let same : done ≡ more =
      one_made size s done more makes
      (subst (λ (u : Scanned). MakesPrepared size u more)
      (one_scanned (mesh_meaning_of bytes) t s are is) again) in
      (ap Ok same, refl)
