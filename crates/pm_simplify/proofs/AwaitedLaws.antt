-- Where a pair waits for a face, the three vertices of the face are flagged, and stay so.
use Rattle.std.proofs.Common.{◌≡◌, ◌≢◌, ℕ, ◌*◌, true, Bool, List, [], length, inl, inr}
use Rattle.std.proofs.Common.{sym, ap, ◌∙◌, subst, arith, length-set}
use Rattle.std.proofs.Common.{get_or-set_other, get_or-set_same}
use Rattle.std.specs.Prelude.{slice_set}
use Rattle.std.proofs.lemmas.Bool.{cases_eq, cases_lt, false≢true, false_from_ne_true}
use Rattle.std.proofs.lemmas.List.{get_or_past, get_or-replicate, length-replicate}
use Rattle.pm_base.specs.Place.{Place}
use Rattle.pm_base.specs.Sides.{Net, face_of, next, prev, Stands}
use Rattle.pm_base.proofs.Sides.{face_cases, stands_next}
use Rattle.pm_links.specs.Lists.{Lists, list_of, empty_lists}
use Rattle.pm_links.proofs.Calls.{list_of-past}
use Rattle.pm_runs.specs.Surfaces.{Surface, next_vertex, net_of_surface, IsSurface, collapsed}
use Rattle.pm_runs.specs.Pairs.{IsLegalPair}
use Rattle.pm_runs.specs.Merged.{IsProper}
use Rattle.pm_runs.specs.Laws.{IsCollapse}
use Rattle.pm_runs.proofs.Merges.{merge-other}
use Rattle.pm_runs.proofs.StepLaws.{steps_keep_surfaces}
use Rattle.pm_simplify.specs.AwaitedVertices.{is_awaited, AreAwaited}

pub flagged_set : (flags : List Bool) (v : ℕ) → is_awaited (slice_set flags v true) v ≡ true
flagged_set flags v =
    elim (cases_lt v (length flags)) [
      | inl low ↦ get_or-set_same flags v true true low
      | inr past ↦
          let same = length-set flags v true in
          get_or_past (slice_set flags v true) v true (omega (arith, same, past))
    ]

pub flagged_stays :
    (flags : List Bool) (v w : ℕ) → is_awaited flags w ≡ true →
    is_awaited (slice_set flags v true) w ≡ true
flagged_stays flags v w is =
    elim (cases_eq w v) [
      | inl same ↦
          subst (λ (x : ℕ). is_awaited (slice_set flags v true) x ≡ true) (sym same)
          (flagged_set flags v)
      | inr ne ↦ get_or-set_other flags v w true true ne ∙ is
    ]

-- The three vertices of the face of side k are flagged.
pub flagged_face :
    (n : Net) (k : ℕ) (flags : List Bool) (a b c : ℕ) → a ≡ n.from k → b ≡ n.from (next k) →
    c ≡ n.from (prev k) → (e : ℕ) → face_of e ≡ face_of k →
    is_awaited (slice_set (slice_set (slice_set flags a true) b true) c true) (n.from e) ≡ true
flagged_face n k flags a b c is_a is_b is_c e at =
    let first : List Bool = slice_set flags a true in
    let second : List Bool = slice_set first b true in
    let third : List Bool = slice_set second c true in
    let Flagged : ℕ → Type 0 = λ v. is_awaited third v ≡ true in
    elim (face_cases k e (sym at)) [
      | inl is ↦
          subst Flagged (is_a ∙ ap n.from (sym is))
          (flagged_stays second c a (flagged_stays first b a (flagged_set flags a)))
      | inr rest ↦
          elim rest [
            | inl is ↦
                subst Flagged (is_b ∙ ap n.from (sym is))
                (flagged_stays second c b (flagged_set first b))
            | inr is ↦ subst Flagged (is_c ∙ ap n.from (sym is)) (flagged_set second c)
          ]
    ]

-- With a face its first side stands.
pub stands_first : (m : Net) (x f : ℕ) → Stands m x → face_of x ≡ f → Stands m (3 * f)
stands_first m x f st at =
    let same : face_of x ≡ face_of (3 * f) = omega (arith, at) in
    elim (face_cases x (3 * f) same) [
      | inl is ↦ subst (Stands m) (sym is) st
      | inr rest ↦
          elim rest [
            | inl is ↦ subst (Stands m) (sym is) (stands_next m x st)
            | inr is ↦ subst (Stands m) (sym is) (stands_next m (next x) (stands_next m x st))
          ]
    ]

-- No pair waits that didn't.
pub awaited_kept :
    (n : Net) (was now : Lists) (flags : List Bool) →
    ((f : ℕ) → list_of was f ≡ [] → list_of now f ≡ []) → AreAwaited n was flags →
    AreAwaited n now flags
awaited_kept n was now flags others noted e st un = others (face_of e) (noted e st un)

-- A pair waits for one more face, whose vertices are flagged.
pub awaited_more :
    (n : Net) (was now : Lists) (old new : List Bool) (face : ℕ) →
    ((f : ℕ) → f ≢ face → list_of was f ≡ [] → list_of now f ≡ []) →
    ((e : ℕ) → face_of e ≡ face → is_awaited new (n.from e) ≡ true) →
    ((v : ℕ) → is_awaited old v ≡ true → is_awaited new v ≡ true) →
    AreAwaited n was old → AreAwaited n now new
awaited_more n was now old new face empty flagged stay noted e st un =
    let v : ℕ = n.from e in
    elim (cases_eq (face_of e) face) [
      | inl is ↦ absurd (false≢true (sym un ∙ flagged e is))
      | inr ne ↦
          empty (face_of e) ne (noted e st
          (false_from_ne_true (is_awaited old v) (λ t. false≢true (sym un ∙ stay v t))))
    ]

-- Where none waits for a face at the two ends of a pair, it stays so as the pair is collapsed.
pub awaited_after :
    (s : Surface) → IsSurface s → IsProper (net_of_surface s) → (t u : ℕ) (at : Place) →
    IsLegalPair s t u at → (lists : Lists) (flags : List Bool) →
    AreAwaited (net_of_surface s) lists flags →
    ((e : ℕ) → Stands (net_of_surface s) e → (net_of_surface s).from e ≡ t →
    list_of lists (face_of e) ≡ []) →
    ((e : ℕ) → Stands (net_of_surface s) e → (net_of_surface s).from e ≡ u →
    list_of lists (face_of e) ≡ []) →
    AreAwaited (net_of_surface (collapsed s t u at)) lists flags
awaited_after s sound proper t u at legal lists flags noted at_t at_u e st un =
    let done : IsCollapse s t u at = steps_keep_surfaces s sound proper t u at legal in
    let before : Stands (net_of_surface s) e = done.faces.stood e st in
    let v : ℕ = (net_of_surface s).from e in
    elim (cases_eq v t) [
      | inl is ↦ at_t e before is
      | inr nt ↦
          elim (cases_eq v u) [
            | inl is ↦ at_u e before is
            | inr nu ↦
                let same = done.faces.corners e st ∙ merge-other t u (next_vertex s) v nt nu in
                noted e before (sym (ap (is_awaited flags) same) ∙ un)
          ]
    ]

-- At first no pair waits.
pub empty_none : (n m f : ℕ) → list_of (empty_lists n m) f ≡ []
empty_none n m f =
    elim (cases_lt f m) [
      | inl low ↦ get_or-replicate m f [] [] low
      | inr past ↦
          list_of-past (empty_lists n m) f
          (let same = length-replicate {A = List ℕ} m [] in omega (arith, same, past))
    ]
