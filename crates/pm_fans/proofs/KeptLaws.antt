-- The faces that stay have three different corners, and no two have the same ones.
use Rattle.std.proofs.Common.{◌≡◌, ℕ, zero, suc, ◌/◌, ◌<◌, ◌⊎◌, inl, inr, refl, sym, ap, ◌∙◌, subst}
use Rattle.std.proofs.lemmas.Grind.{common_steps}
use Rattle.std.proofs.Common.{List, [], ◌∷◌, ◌++◌, length, Bool, true, false, not, arith}
use Rattle.std.specs.List.{list_any}
use Rattle.std.proofs.lemmas.Bool.{and_cases, not-false, cases_Bool, cases_order}
use Rattle.std.proofs.lemmas.Bool.{cond-true, cond-false, and_parts, and_from, or_left, or_right}
use Rattle.std.proofs.lemmas.Bool.{not-true, true≢false}
use Rattle.std.proofs.lemmas.List.{get_or_append_left, length-append}
use Rattle.std.proofs.Math.Seq.{get_or-append_seam}
use Rattle.std.proofs.lemmas.List.Folds.{list_any_at, list_any-append}
use Rattle.pm_base.specs.declared.mesh.Corners.{Corners}
use Rattle.pm_base.specs.Sides.{Net, to, net_of}
use Rattle.pm_base.proofs.Sides.{face_cases, corner-first, first-second, second-corner}
use Rattle.pm_base.proofs.NetLaws.{face_at}
use Rattle.pm_fans.specs.Splits.{AllStand, NoMirroredFaces}
use Rattle.pm_fans.specs.Kept.{is_flat, is_alike, is_kept_after, kept_after, kept_of}
use Rattle.pm_fans.specs.Kept.{IsFitList}
use Rattle.pm_fans.proofs.Turned.{side_turned, not_flat, turned_differ, corner_a, corner_b}
use Rattle.pm_fans.proofs.Turned.{corner_c, mirrors_alike}

none_fit : IsFitList []
none_fit = record { flat = λ i l. absurd (omega arith); apart = λ i j l k. absurd (omega arith) }

-- An item of a list with one more.
more_cases : (fs : List Corners) (f : Corners) (i : ℕ) → i < length (fs ++ f ∷ [])
    → ((i < length fs) × (face_at (fs ++ f ∷ []) i ≡ face_at fs i))
    ⊎ ((i ≡ length fs) × (face_at (fs ++ f ∷ []) i ≡ f))
more_cases fs f i l =
    grind (arith, common_steps, face_at, get_or-append_seam, get_or_append_left, length-append)

parts_kept : (fs : List Corners) (f : Corners) → is_kept_after fs f ≡ true
    → (is_flat f ≡ false) × (list_any (is_alike f) fs ≡ false)
unfolding is_kept_after
parts_kept fs f k = let (a, b) = and_parts (not (is_flat f)) (not (list_any (is_alike f) fs)) k in
    (not-true _ a, not-true _ b)

unlike : (fs : List Corners) (f : Corners) (i : ℕ) → list_any (is_alike f) fs ≡ false
    → i < length fs → is_alike f (face_at fs i) ≡ false
unlike fs f i none l = grind (arith, common_steps, face_at, list_any_at)

more_fit : (fs : List Corners) (f : Corners) → IsFitList fs → is_kept_after fs f ≡ true
    → IsFitList (fs ++ f ∷ [])
more_fit fs f h k =
    let (flat, none) = parts_kept fs f k in
    record {
      flat = λ i l. elim (more_cases fs f i l) [
        | inl (a, e) ↦
            subst (λ g. is_flat g ≡ false) (sym e) (h.flat i a)
        | inr (a, e) ↦
            subst (λ g. is_flat g ≡ false) (sym e) flat
      ];
      apart = λ i j ij l.
          elim (more_cases fs f i (omega arith)) [
            | inr (a, e) ↦ absurd (omega (arith, length-append fs (f ∷ [])))
            | inl (a, e) ↦
                subst (λ g. is_alike (face_at (fs ++ f ∷ []) j) g ≡ false) (sym e)
                (elim (more_cases fs f j l) [
                  | inl (b, d) ↦
                      subst (λ g. is_alike g (face_at fs i) ≡ false) (sym d) (h.apart i j ij b)
                  | inr (b, d) ↦
                      subst (λ g. is_alike g (face_at fs i) ≡ false) (sym d) (unlike fs f i none a)
                ])
          ];
    }

kept_after_fit : (before fs : List Corners) → IsFitList before → IsFitList (kept_after before fs)
kept_after_fit before [] h = h
kept_after_fit before (f ∷ fs) h =
    elim (cases_Bool (is_kept_after before f)) [
      | inl t ↦ subst IsFitList (sym (cond-true _ _ _ t))
          (kept_after_fit (before ++ f ∷ []) fs (more_fit before f h t))
      | inr n ↦ subst IsFitList (sym (cond-false _ _ _ n)) (kept_after_fit before fs h)
    ]

fit_stand : (fs : List Corners) → IsFitList fs → AllStand (net_of fs)
fit_stand fs h e l =
    let d = turned_differ _ _ _ _ (not_flat (face_at fs (e / 3)) (h.flat (e / 3) (omega arith)))
    (side_turned fs e (e / 3) refl) in
    record { is_side = l; first = d.xy; second = d.yz; last = d.zx }

fit_single : (fs : List Corners) → IsFitList fs → NoMirroredFaces (net_of fs)
fit_single fs h v x y f g =
    let m : Net = net_of fs in
    let fl = f.stands.is_side in
    let gl = g.stands.is_side in
    elim (cases_order (f.side / 3) (g.side / 3)) [
      | inl same ↦
          elim (face_cases f.side g.side same) [
            | inl is ↦ first-second m v x y f (sym f.one ∙ ap (to m) (sym is) ∙ g.one)
            | inr k ↦ grind (arith, common_steps, corner-first, second-corner)
          ]
      | inr k ↦
          elim k [
            | inl l ↦ true≢false (sym (mirrors_alike fs v x y f g)
                ∙ h.apart (f.side / 3) (g.side / 3) l (omega arith))
            | inr l ↦ true≢false (sym (mirrors_alike fs v y x g f)
                ∙ h.apart (g.side / 3) (f.side / 3) l (omega arith))
          ]
    ]

pub kept_are_fit : (fs : List Corners) → AllStand (net_of (kept_of fs))
    × NoMirroredFaces (net_of (kept_of fs))
unfolding kept_of
kept_are_fit fs = let h =
    kept_after_fit [] fs none_fit in
    (fit_stand (kept_after [] fs) h, fit_single (kept_after [] fs) h)

-- What was found among the faces that stayed is found later on.
grows : (p : Corners → Bool) (before fs : List Corners) → list_any p before ≡ true
    → list_any p (kept_after before fs) ≡ true
grows p before [] h = h
grows p before (f ∷ fs) h =
    elim (cases_Bool (is_kept_after before f)) [
      | inl t ↦ ap (list_any p) (cond-true _ _ _ t)
          ∙ grows p (before ++ f ∷ []) fs (list_any-append p before (f ∷ [])
          ∙ or_left (list_any p before) (list_any p (f ∷ [])) h)
      | inr n ↦ ap (list_any p) (cond-false _ _ _ n) ∙ grows p before fs h
    ]

alike_itself : (f : Corners) → is_alike f f ≡ true
unfolding is_alike
alike_itself f = grind (arith, common_steps, and_from, corner_a, corner_b, corner_c)

was_there : (before : List Corners) (f : Corners) → is_flat f ≡ false
    → is_kept_after before f ≡ false → list_any (is_alike f) before ≡ true
unfolding is_kept_after
was_there before f flat n = grind (arith, common_steps, and_cases, not-false)

not_lost : (before fs : List Corners) (i : ℕ) → i < length fs → is_flat (face_at fs i) ≡ false
    → list_any (is_alike (face_at fs i)) (kept_after before fs) ≡ true
not_lost before [] i l flat = absurd (omega arith)
not_lost before (f ∷ fs) zero l flat =
    elim (cases_Bool (is_kept_after before f)) [
      | inl t ↦ ap (list_any (is_alike f)) (cond-true _ _ _ t)
          ∙ grows (is_alike f) (before ++ f ∷ []) fs (list_any-append (is_alike f) before (f ∷ [])
          ∙ or_right (list_any (is_alike f) before) (list_any (is_alike f) (f ∷ []))
          (or_left (is_alike f f) false (alike_itself f)))
      | inr n ↦ ap (list_any (is_alike f)) (cond-false _ _ _ n)
          ∙ grows (is_alike f) before fs (was_there before f flat n)
    ]
not_lost before (f ∷ fs) (suc i) l flat =
    elim (cases_Bool (is_kept_after before f)) [
      | inl t ↦ ap (list_any (is_alike (face_at fs i))) (cond-true _ _ _ t)
          ∙ not_lost (before ++ f ∷ []) fs i (omega arith) flat
      | inr n ↦ ap (list_any (is_alike (face_at fs i))) (cond-false _ _ _ n)
          ∙ not_lost before fs i (omega arith) flat
    ]

pub nothing_is_lost : (fs : List Corners) (i : ℕ) → i < length fs → is_flat (face_at fs i) ≡ false
    → list_any (is_alike (face_at fs i)) (kept_of fs) ≡ true
unfolding kept_of
nothing_is_lost fs i l flat = not_lost [] fs i l flat
