-- The faces that stay are a list of which all stay.
use Rattle.std.proofs.Common.{◌≡◌, ℕ, ◌<◌, ◌⊎◌, inl, inr, sym, subst, List, [], ◌∷◌, ◌++◌}
use Rattle.std.proofs.lemmas.Grind.{common_steps}
use Rattle.std.proofs.Common.{length, true, false, not, arith}
use Rattle.std.specs.List.{list_any}
use Rattle.std.proofs.lemmas.Bool.{cases_Bool, cond-true, cond-false, and_parts, not-true}
use Rattle.std.proofs.lemmas.List.{get_or_append_left, length-append}
use Rattle.std.proofs.Math.Seq.{get_or-append_seam}
use Rattle.std.proofs.lemmas.List.Folds.{list_any_at}
use Rattle.pm_base.specs.declared.mesh.Corners.{Corners}
use Rattle.pm_base.proofs.NetLaws.{face_at}
use Rattle.pm_fans.specs.Kept.{is_flat, is_alike, is_kept_after, kept_after, kept_of, IsFitList}

none_fit : IsFitList []
none_fit = record { flat = λ i l. absurd (omega arith); apart = λ i j l k. absurd (omega arith) }

-- An item of a list with one more.
more_cases : (fs : List Corners) (f : Corners) (i : ℕ) → i < length (fs ++ f ∷ [])
    → ((i < length fs) × (face_at (fs ++ f ∷ []) i ≡ face_at fs i))
    ⊎ ((i ≡ length fs) × (face_at (fs ++ f ∷ []) i ≡ f))
more_cases fs f i l =
    grind (arith, common_steps, face_at, get_or-append_seam, get_or_append_left, length-append)

parts_kept : (fs : List Corners) (f : Corners) → is_kept_after fs f ≡ true
    → (is_flat f ≡ false) × (list_any (is_alike f) fs ≡ false)
unfolding is_kept_after
parts_kept fs f k = let (a, b) = and_parts (not (is_flat f)) (not (list_any (is_alike f) fs)) k in
    (not-true _ a, not-true _ b)

unlike : (fs : List Corners) (f : Corners) (i : ℕ) → list_any (is_alike f) fs ≡ false
    → i < length fs → is_alike f (face_at fs i) ≡ false
unlike fs f i none l = grind (arith, common_steps, face_at, list_any_at)

more_fit : (fs : List Corners) (f : Corners) → IsFitList fs → is_kept_after fs f ≡ true
    → IsFitList (fs ++ f ∷ [])
more_fit fs f h k =
    let (flat, none) = parts_kept fs f k in
    record {
      flat = λ i l. elim (more_cases fs f i l) [
        | inl (a, e) ↦
            subst (λ g. is_flat g ≡ false) (sym e) (h.flat i a)
        | inr (a, e) ↦
            subst (λ g. is_flat g ≡ false) (sym e) flat
      ];
      apart = λ i j ij l.
          elim (more_cases fs f i (omega arith)) [
            | inr (a, e) ↦ absurd (omega (arith, length-append fs (f ∷ [])))
            | inl (a, e) ↦
                subst (λ g. is_alike (face_at (fs ++ f ∷ []) j) g ≡ false) (sym e)
                (elim (more_cases fs f j l) [
                  | inl (b, d) ↦
                      subst (λ g. is_alike g (face_at fs i) ≡ false) (sym d) (h.apart i j ij b)
                  | inr (b, d) ↦
                      subst (λ g. is_alike g (face_at fs i) ≡ false) (sym d) (unlike fs f i none a)
                ])
          ];
    }

kept_after_fit : (before fs : List Corners) → IsFitList before → IsFitList (kept_after before fs)
kept_after_fit before [] h = h
kept_after_fit before (f ∷ fs) h =
    elim (cases_Bool (is_kept_after before f)) [
      | inl t ↦ subst IsFitList (sym (cond-true _ _ _ t))
          (kept_after_fit (before ++ f ∷ []) fs (more_fit before f h t))
      | inr n ↦ subst IsFitList (sym (cond-false _ _ _ n)) (kept_after_fit before fs h)
    ]

pub kept_list_fit : (fs : List Corners) → IsFitList (kept_of fs)
unfolding kept_of
kept_list_fit fs = kept_after_fit [] fs none_fit
